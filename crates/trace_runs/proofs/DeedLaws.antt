-- What is decided of a session's answer is what its form says.
use Rattle.std.proofs.Common.{◌≡◌, ℕ, ◌↔◌, refl, sym, ap, ◌∙◌, [], ◌∷◌, List, Bool, true, false, ◌&&◌, ◌<◌, length, map, arith, subst}
use Rattle.std.proofs.Math.Bool.{and-true}
use Rattle.symbolic_runs.specs.declared.kind.MacKind.{MacKind}
use Rattle.symbolic_runs.specs.declared.term.Term.{Term}
use Rattle.symbolic_runs.specs.Views.{tree}
use Rattle.symbolic_runs.specs.Forms.{mail_request}
use Rattle.symbolic_runs.specs.Gifts.{is_request}
use Rattle.symbolic_runs.specs.Runs.{Setting}
use Rattle.symbolic_runs.specs.Sessions.{Deed, Used, got, gives_vouch}
use Rattle.symbolic_runs.specs.Trees.{Tree, plain, nonce, challenge, long_key, ticket_key, junk_key, password, joined, seal, digest, none, piece}
use Rattle.clean_runs.specs.Forms.{IsAnswered}
use Rattle.trace_runs.specs.Deeds.{answers, are_right, has_right_pieces}
use Rattle.trace_runs.specs.Formed.{answered, is_digest, is_right}
use Rattle.trace_runs.specs.Parts.{pieces_in}
use Rattle.trace_runs.specs.Shapes.{of_pieces}
use Rattle.trace_runs.proofs.FormLaws.{answered_law}
use Rattle.trace_runs.proofs.ShapeLaws.{no1, no2}

pub right_fits : (name : List ℕ) (chal : Tree) (domain : List ℕ) (kind : MacKind) (first : ℕ) (t : Tree) → of_pieces (are_right name chal domain kind first) (pieces_in t) ≡ has_right_pieces name chal domain kind first t
right_fits name chal domain kind first (plain b) = refl
right_fits name chal domain kind first (nonce n) = refl
right_fits name chal domain kind first (challenge n) = refl
right_fits name chal domain kind first (long_key n) = refl
right_fits name chal domain kind first (ticket_key n) = refl
right_fits name chal domain kind first (junk_key n) = refl
right_fits name chal domain kind first (password n) = refl
right_fits name chal domain kind first (seal k b) = refl
right_fits name chal domain kind first (digest k p b) = refl
right_fits name chal domain kind first (joined none) = refl
right_fits name chal domain kind first (joined (piece q none)) = no1 (is_request (mail_request kind) q chal)
right_fits name chal domain kind first (joined (piece q (piece d none))) = rw (and-true (is_digest kind name domain first d)) refl
right_fits name chal domain kind first (joined (piece q (piece d (piece more ts)))) =
    no2 (is_request (mail_request kind) q chal) (is_digest kind name domain first d)

pub part_fails : (a w : Bool) → false ≡ w → false ≡ (a && w)
part_fails a w e = subst (λ x. false ≡ (a && x)) e (no1 a)

pub rest_holds : (a w so : Bool) → true ≡ w → so ≡ a → so ≡ (a && w)
rest_holds a w so e f = f ∙ sym (and-true a) ∙ ap (λ x. a && x) e

same_answer : (s : Setting) (number : ℕ) (before : List Deed) (domain : List ℕ) (used : Used) (chal t : Tree) (deed : Deed) → s.domain ≡ domain → (s.grants number).used ≡ used → (s.grants number).chal ≡ chal → answered s (got number t ∷ before) deed ≡ answers used chal domain t deed
same_answer s number before domain used chal t (gives_vouch kind at first) e f g =
    ap (λ u. is_right u (s.grants number).chal s.domain kind first t) f
    ∙ ap (λ c. is_right used c s.domain kind first t) g
    ∙ ap (λ d. is_right used chal d kind first t) e
same_answer s number before domain used chal t deed e f g = refl

pub decided_answer : (s : Setting) (number : ℕ) (before : List Deed) (domain : List ℕ) (used : Used) (chal t : Tree) (deed : Deed) (so : Bool) → s.domain ≡ domain → (s.grants number).used ≡ used → (s.grants number).chal ≡ chal → so ≡ answers used chal domain t deed → (so ≡ true) ↔ IsAnswered s (got number t ∷ before) deed
decided_answer s number before domain used chal t deed so e f g h =
    subst (λ b. (b ≡ true) ↔ IsAnswered s (got number t ∷ before) deed) (sym (h ∙ sym (same_answer s number before domain used chal t deed e f g)))
    (answered_law s (got number t ∷ before) deed)

-- lists of another length
pub few_right : (name : List ℕ) (chal : Tree) (domain : List ℕ) (kind : MacKind) (first : ℕ) (xs : List Term) → length xs < 2 → false ≡ are_right name chal domain kind first (map tree xs)
few_right name chal domain kind first [] e = refl
few_right name chal domain kind first (a ∷ []) e = refl
few_right name chal domain kind first (a ∷ b ∷ more) e = absurd (omega (arith, e))

pub many_right : (name : List ℕ) (chal : Tree) (domain : List ℕ) (kind : MacKind) (first : ℕ) (xs : List Term) → 2 < length xs → false ≡ are_right name chal domain kind first (map tree xs)
many_right name chal domain kind first [] e = refl
many_right name chal domain kind first (a ∷ []) e = refl
many_right name chal domain kind first (a ∷ b ∷ []) e = absurd (omega (arith, e))
many_right name chal domain kind first (a ∷ b ∷ c ∷ more) e = refl
