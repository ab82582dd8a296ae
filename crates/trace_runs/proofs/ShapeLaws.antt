-- What is told piece by piece is what is told by the form made of a tree's own parts.
use Rattle.std.proofs.Common.{◌≡◌, ℕ, refl, sym, ◌∙◌, [], ◌∷◌, List, ap, Bool, true, false, ◌&&◌, subst, bytes_eq, ◌<◌, length, map, arith}
use Rattle.std.proofs.lemmas.Bool.{and_parts, and_from}
use Rattle.std.proofs.lemmas.Slice.Eq.{bytes_eq-Decides}
use Rattle.std.proofs.Math.Bool.{and-true}
use Rattle.symbolic_runs.specs.declared.term.Term.{Term}
use Rattle.symbolic_runs.specs.Views.{tree}
use Rattle.symbolic_runs.specs.Forms.{answer_ok, authenticator, by_client, for_client, for_server, pair, ticket}
use Rattle.symbolic_runs.specs.Gifts.{body, bytes, is_request, part, shown, takes_ticket, ticket_like}
use Rattle.symbolic_runs.specs.Moves.{Own}
use Rattle.symbolic_runs.specs.Trees.{Tree, plain, nonce, challenge, long_key, ticket_key, junk_key, password, joined, seal, digest, none, piece, same_tree}
use Rattle.symbolic_runs.proofs.EqualityLaws.{equal_trees, tree_itself}
use Rattle.trace_runs.specs.Parts.{pieces_in}
use Rattle.trace_runs.specs.Shapes.{are_answer, are_authenticator, are_challenge, are_request, are_shown, are_ticket, are_vouch, is_answer, is_public, is_ticket_for, is_vouch, of_pieces, proves_ticket}

-- one of several tests fails
pub no1 : (a : Bool) → false ≡ (a && false)
no1 true = refl
no1 false = refl

pub no2 : (a b : Bool) → false ≡ (a && (b && false))
no2 true b = no1 b
no2 false b = refl

no3 : (a b c : Bool) → false ≡ (a && (b && (c && false)))
no3 true b c = no2 b c
no3 false b c = refl

no4 : (a b c d : Bool) → false ≡ (a && (b && (c && (d && false))))
no4 true b c d = no3 b c d
no4 false b c d = refl

no5 : (a b c d e : Bool) → false ≡ (a && (b && (c && (d && (e && false)))))
no5 true b c d e = no4 b c d e
no5 false b c d e = refl

no6 : (a b c d e f : Bool) → false ≡ (a && (b && (c && (d && (e && (f && false))))))
no6 true b c d e f = no5 b c d e f
no6 false b c d e f = refl

pub public_is : (t : Tree) → is_public t ≡ same_tree t (plain (bytes t))
public_is (plain b) = sym (tree_itself (plain b))
public_is (nonce n) = refl
public_is (challenge n) = refl
public_is (long_key n) = refl
public_is (ticket_key n) = refl
public_is (junk_key n) = refl
public_is (password n) = refl
public_is (joined ts) = refl
public_is (seal k b) = refl
public_is (digest k p b) = refl

pub request_fits : (kind : List ℕ) (chal t : Tree) → of_pieces (are_request kind chal) (pieces_in t) ≡ is_request kind t chal
request_fits kind chal (plain b) = refl
request_fits kind chal (nonce n) = refl
request_fits kind chal (challenge n) = refl
request_fits kind chal (long_key n) = refl
request_fits kind chal (ticket_key n) = refl
request_fits kind chal (junk_key n) = refl
request_fits kind chal (password n) = refl
request_fits kind chal (seal k b) = refl
request_fits kind chal (digest k p b) = refl
request_fits kind chal (joined none) = refl
request_fits kind chal (joined (piece n none)) = no1 (same_tree n (plain kind))
request_fits kind chal (joined (piece n (piece a none))) = no2 (same_tree n (plain kind)) (same_tree a (plain (bytes a)))
request_fits kind chal (joined (piece n (piece a (piece d none)))) =
    no3 (same_tree n (plain kind)) (same_tree a (plain (bytes a))) (same_tree d (plain (bytes d)))
request_fits kind chal (joined (piece n (piece a (piece d (piece x none))))) =
    no4 (same_tree n (plain kind)) (same_tree a (plain (bytes a))) (same_tree d (plain (bytes d))) (same_tree x chal)
request_fits kind chal (joined (piece n (piece a (piece d (piece x (piece h none)))))) =
    no5 (same_tree n (plain kind)) (same_tree a (plain (bytes a))) (same_tree d (plain (bytes d))) (same_tree x chal)
    (same_tree h (plain (bytes h)))
request_fits kind chal (joined (piece n (piece a (piece d (piece x (piece h (piece u none))))))) =
    rw (public_is a, public_is d, public_is h, public_is u, and-true (same_tree u (plain (bytes u)))) refl
request_fits kind chal (joined (piece n (piece a (piece d (piece x (piece h (piece u (piece more ts)))))))) =
    no6 (same_tree n (plain kind)) (same_tree a (plain (bytes a))) (same_tree d (plain (bytes d))) (same_tree x chal)
    (same_tree h (plain (bytes h))) (same_tree u (plain (bytes u)))

pub ticket_fits : (number : List ℕ) (chal t : Tree) → of_pieces (are_ticket number chal) (pieces_in t) ≡ same_tree t (ticket_like number chal t)
ticket_fits number chal (plain b) = refl
ticket_fits number chal (nonce n) = refl
ticket_fits number chal (challenge n) = refl
ticket_fits number chal (long_key n) = refl
ticket_fits number chal (ticket_key n) = refl
ticket_fits number chal (junk_key n) = refl
ticket_fits number chal (password n) = refl
ticket_fits number chal (seal k b) = refl
ticket_fits number chal (digest k p b) = refl
ticket_fits number chal (joined none) = refl
ticket_fits number chal (joined (piece n none)) = no1 (same_tree n (plain number))
ticket_fits number chal (joined (piece n (piece x none))) = no2 (same_tree n (plain number)) (same_tree x chal)
ticket_fits number chal (joined (piece n (piece x (piece c none)))) =
    no3 (same_tree n (plain number)) (same_tree x chal) (same_tree c (plain (bytes c)))
ticket_fits number chal (joined (piece n (piece x (piece c (piece u none))))) =
    no4 (same_tree n (plain number)) (same_tree x chal) (same_tree c (plain (bytes c))) (same_tree u (plain (bytes u)))
ticket_fits number chal (joined (piece n (piece x (piece c (piece u (piece k none)))))) =
    rw (public_is c, public_is u, tree_itself k, and-true (same_tree u (plain (bytes u)))) refl
ticket_fits number chal (joined (piece n (piece x (piece c (piece u (piece k (piece more ts))))))) =
    no5 (same_tree n (plain number)) (same_tree x chal) (same_tree c (plain (bytes c))) (same_tree u (plain (bytes u)))
    (same_tree k k)

pub authenticator_fits : (number : List ℕ) (chal t : Tree) → of_pieces (are_authenticator number chal) (pieces_in t) ≡ same_tree t (authenticator number chal)
authenticator_fits number chal (plain b) = refl
authenticator_fits number chal (nonce n) = refl
authenticator_fits number chal (challenge n) = refl
authenticator_fits number chal (long_key n) = refl
authenticator_fits number chal (ticket_key n) = refl
authenticator_fits number chal (junk_key n) = refl
authenticator_fits number chal (password n) = refl
authenticator_fits number chal (seal k b) = refl
authenticator_fits number chal (digest k p b) = refl
authenticator_fits number chal (joined none) = refl
authenticator_fits number chal (joined (piece n none)) = no1 (same_tree n (plain number))
authenticator_fits number chal (joined (piece n (piece x none))) = no2 (same_tree n (plain number)) (same_tree x chal)
authenticator_fits number chal (joined (piece n (piece x (piece id none)))) =
    rw (and-true (same_tree id (plain (0 ∷ 0 ∷ 0 ∷ 0 ∷ [])))) refl
authenticator_fits number chal (joined (piece n (piece x (piece id (piece more ts))))) =
    no3 (same_tree n (plain number)) (same_tree x chal) (same_tree id (plain (0 ∷ 0 ∷ 0 ∷ 0 ∷ [])))

pub answer_fits : (own : Own) (chal t : Tree) → of_pieces (are_answer own chal) (pieces_in t) ≡ is_answer own chal t
answer_fits own chal (plain b) = refl
answer_fits own chal (nonce n) = refl
answer_fits own chal (challenge n) = refl
answer_fits own chal (long_key n) = refl
answer_fits own chal (ticket_key n) = refl
answer_fits own chal (junk_key n) = refl
answer_fits own chal (password n) = refl
answer_fits own chal (seal k b) = refl
answer_fits own chal (digest k p b) = refl
answer_fits own chal (joined none) = refl
answer_fits own chal (joined (piece n none)) = no1 (same_tree n (plain answer_ok))
answer_fits own chal (joined (piece n (piece t none))) =
    no2 (same_tree n (plain answer_ok)) (same_tree t (seal own.key (ticket_like for_client chal (body t))))
answer_fits own chal (joined (piece n (piece t (piece h none)))) =
    rw (tree_itself h, and-true (same_tree t (seal own.key (ticket_like for_client chal (body t))))) refl
answer_fits own chal (joined (piece n (piece t (piece h (piece more ts))))) =
    no3 (same_tree n (plain answer_ok)) (same_tree t (seal own.key (ticket_like for_client chal (body t)))) (same_tree h h)

pub shown_fits : (own : Own) (t : Tree) → of_pieces (are_shown own) (pieces_in t) ≡ takes_ticket own t (bytes (part (shown t) 3))
shown_fits own (plain b) = refl
shown_fits own (nonce n) = refl
shown_fits own (challenge n) = refl
shown_fits own (long_key n) = refl
shown_fits own (ticket_key n) = refl
shown_fits own (junk_key n) = refl
shown_fits own (password n) = refl
shown_fits own (seal k b) = refl
shown_fits own (digest k p b) = refl
shown_fits own (joined none) = refl
shown_fits own (joined (piece t none)) = no1 (is_ticket_for own t)
shown_fits own (joined (piece t (piece proof none))) = rw (and-true (proves_ticket own t proof)) refl
shown_fits own (joined (piece t (piece proof (piece more ts)))) = no2 (is_ticket_for own t) (proves_ticket own t proof)

pub vouch_fits : (own : Own) (t : Tree) → of_pieces (are_vouch own) (pieces_in t) ≡ is_vouch own t
vouch_fits own (plain b) = refl
vouch_fits own (nonce n) = refl
vouch_fits own (challenge n) = refl
vouch_fits own (long_key n) = refl
vouch_fits own (ticket_key n) = refl
vouch_fits own (junk_key n) = refl
vouch_fits own (password n) = refl
vouch_fits own (seal k b) = refl
vouch_fits own (digest k p b) = refl
vouch_fits own (joined none) = refl
vouch_fits own (joined (piece n none)) = no1 (same_tree n (plain answer_ok))
vouch_fits own (joined (piece n (piece t none))) = no2 (same_tree n (plain answer_ok)) (is_ticket_for own t)
vouch_fits own (joined (piece n (piece t (piece proof none)))) = rw (and-true (proves_ticket own t proof)) refl
vouch_fits own (joined (piece n (piece t (piece proof (piece more ts))))) =
    no3 (same_tree n (plain answer_ok)) (is_ticket_for own t) (proves_ticket own t proof)

pub challenge_fits : (t : Tree) → of_pieces are_challenge (pieces_in t) ≡ same_tree t (pair (plain (bytes (part t 0))) (part t 1))
challenge_fits (plain b) = refl
challenge_fits (nonce n) = refl
challenge_fits (challenge n) = refl
challenge_fits (long_key n) = refl
challenge_fits (ticket_key n) = refl
challenge_fits (junk_key n) = refl
challenge_fits (password n) = refl
challenge_fits (seal k b) = refl
challenge_fits (digest k p b) = refl
challenge_fits (joined none) = refl
challenge_fits (joined (piece h none)) = no1 (same_tree h (plain (bytes h)))
challenge_fits (joined (piece h (piece t none))) = rw (public_is h, tree_itself t, and-true (same_tree h (plain (bytes h)))) refl
challenge_fits (joined (piece h (piece t (piece more ts)))) = no2 (same_tree h (plain (bytes h))) (same_tree t t)

-- two tests that hold together are equal
pub both_ways : (a b : Bool) → (a ≡ true → b ≡ true) → (b ≡ true → a ≡ true) → a ≡ b
both_ways true b f g = sym (f refl)
both_ways false true f g = g refl
both_ways false false f g = refl

-- a ticket that is taken for a user has the user's field
pub taken_for : (own : Own) (m : Tree) (suid : List ℕ) → takes_ticket own m suid ≡ (takes_ticket own m (bytes (part (shown m) 3)) && bytes_eq (bytes (part (shown m) 3)) suid)
taken_for own m suid =
    let form : List ℕ → Tree = λ user. pair (seal own.key (ticket for_server own.word (bytes (part (shown m) 2)) user (part (shown m) 4)))
    (seal (part (shown m) 4) (authenticator by_client own.word)) in
    let third : List ℕ = bytes (part (shown m) 3) in
    both_ways (takes_ticket own m suid) (takes_ticket own m third && bytes_eq third suid)
    (λ e. let is : third ≡ suid = ap (λ x. bytes (part (shown x) 3)) (equal_trees m (form suid) e) in
    and_from (takes_ticket own m third) (bytes_eq third suid) (subst (λ user. takes_ticket own m user ≡ true) (sym is) e) ((bytes_eq-Decides third suid).1 is))
    (λ e. let both = and_parts (takes_ticket own m third) (bytes_eq third suid) e in
    subst (λ user. takes_ticket own m user ≡ true) ((bytes_eq-Decides third suid).0 both.1) both.0)

pub taken_so : (own : Own) (m : Tree) (suid user : List ℕ) (so : Bool) → true ≡ takes_ticket own m (bytes (part (shown m) 3)) → user ≡ bytes (part (shown m) 3) → so ≡ bytes_eq user suid → so ≡ takes_ticket own m suid
taken_so own m suid user so e f g =
    g ∙ ap (λ x. bytes_eq x suid) f ∙ ap (λ t. t && bytes_eq (bytes (part (shown m) 3)) suid) e ∙ sym (taken_for own m suid)

-- lists of another length
pub few_shown : (own : Own) (xs : List Term) → length xs < 2 → false ≡ are_shown own (map tree xs)
few_shown own [] e = refl
few_shown own (a ∷ []) e = refl
few_shown own (a ∷ b ∷ more) e = absurd (omega (arith, e))

pub many_shown : (own : Own) (xs : List Term) → 2 < length xs → false ≡ are_shown own (map tree xs)
many_shown own [] e = refl
many_shown own (a ∷ []) e = refl
many_shown own (a ∷ b ∷ []) e = absurd (omega (arith, e))
many_shown own (a ∷ b ∷ c ∷ more) e = refl

pub few_vouch : (own : Own) (xs : List Term) → length xs < 3 → false ≡ are_vouch own (map tree xs)
few_vouch own [] e = refl
few_vouch own (a ∷ []) e = refl
few_vouch own (a ∷ b ∷ []) e = refl
few_vouch own (a ∷ b ∷ c ∷ more) e = absurd (omega (arith, e))

pub many_vouch : (own : Own) (xs : List Term) → 3 < length xs → false ≡ are_vouch own (map tree xs)
many_vouch own [] e = refl
many_vouch own (a ∷ []) e = refl
many_vouch own (a ∷ b ∷ []) e = refl
many_vouch own (a ∷ b ∷ c ∷ []) e = absurd (omega (arith, e))
many_vouch own (a ∷ b ∷ c ∷ d ∷ more) e = refl
