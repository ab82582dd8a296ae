-- What the laws of p9any's servers and clients share: the role of the inner start, the acts by which p9any chooses, which are no
-- moves, and whether a list says that the choice is consented to.
use Rattle.std.proofs.Common.{◌≡◌, ℕ, List, [], ◌∷◌, Bool, true, false, ◌||◌, Option, unwrap_or, inl, inr, if◌then◌else◌, refl, sym, ap, ◌∙◌}
use Rattle.std.proofs.lemmas.Bool.{cases_Bool}
use Rattle.std.proofs.lemmas.Slice.Eq.{bytes_eq-Decides}
use Rattle.std.specs.Prelude.{codes}
use Rattle.std.specs.Str.{bytes_eq}
use Rattle.attr_tuples.specs.declared.attr.Attr.{Attr}
use Rattle.attr_tuples.specs.Attributes.{is_named}
use Rattle.attr_tuples.specs.Matching.{texts_of, value_of}
use Rattle.roles.specs.declared.stage.Role.{Role as SkRole}
use Rattle.roles.specs.declared.stage.Role.TheVariants.{Client, Server, Speakfor}
use Rattle.roles.specs.Starts.{is_text_of, role_of}
use Rattle.conv_p9any.specs.Inner.{inner_template, is_replaced, left_part}
use Rattle.conv_p9any.specs.Offers.{consents}
use Rattle.conv_p9any.specs.Texts.{text_with_nul}
use Rattle.symbolic_runs.specs.Moves.{Own, Role}
use Rattle.symbolic_runs.specs.Trees.{Tree}
use Rattle.wire_histories.specs.Histories.{Act}
use Rattle.clean_runs.specs.Labels.{Labelled}
use Rattle.clean_runs.specs.Runs.{acts_in, is_choosing, moves_by, moves_for}
use Rattle.clean_runs.proofs.Follows.{more_acts, moves_next}

-- ---- the role of the inner start

named_other : (name other : List ℕ) (a : Attr) → is_named name a ≡ true → bytes_eq name other ≡ false → is_named other a ≡ false
named_other name other a is differs = ap (λ (n : List ℕ). bytes_eq n other) ((bytes_eq-Decides a.name name).0 is) ∙ differs

-- a name that a choice doesn't replace
record IsKept (name : List ℕ) : Type 0 where
  proto : bytes_eq (codes "proto") name ≡ false
  dom : bytes_eq (codes "dom") name ≡ false

replaced_other : (name : List ℕ) (a : Attr) → IsKept name → is_replaced a ≡ true → is_named name a ≡ false
replaced_other name a kept is = elim (cases_Bool (is_named (codes "proto") a)) [
  | inl one ↦ named_other (codes "proto") name a one kept.proto
  | inr none ↦ named_other (codes "dom") name a (sym (ap (λ (x : Bool). x || is_named (codes "dom") a) none) ∙ is) kept.dom
]

texts_left : (name : List ℕ) (template : List Attr) → IsKept name → texts_of name (left_part template) ≡ texts_of name template
texts_left name [] kept = refl
texts_left name (a ∷ template) kept = elim (cases_Bool (is_replaced a)) [
  | inl is ↦ rw (is, replaced_other name a kept is) (texts_left name template kept)
  | inr not_so ↦ rw (not_so, texts_left name template kept) refl
]

role_stays : (template : List Attr) (dom : List ℕ) → value_of (codes "role") (inner_template (codes "p9sk1") template dom) ≡ value_of (codes "role") template
unfolding value_of
role_stays template dom = rw (texts_left (codes "role") template (record { proto = refl; dom = refl })) refl

user_stays : (template : List Attr) (dom : List ℕ) → value_of (codes "user") (inner_template (codes "p9sk1") template dom) ≡ value_of (codes "user") template
unfolding value_of
user_stays template dom = rw (texts_left (codes "user") template (record { proto = refl; dom = refl })) refl

abbrev role_by_texts : Option (List ℕ) → Option (List ℕ) → SkRole
role_by_texts role user = if is_text_of role (codes "speakfor") then Speakfor (unwrap_or user []) else if is_text_of role (codes "server") then Server else Client

role_is : (template : List Attr) → role_of template ≡ role_by_texts (value_of (codes "role") template) (value_of (codes "user") template)
unfolding role_of
role_is template = refl

pub inner_role : (template : List Attr) (dom : List ℕ) → role_of (inner_template (codes "p9sk1") template dom) ≡ role_of template
inner_role template dom =
    role_is (inner_template (codes "p9sk1") template dom)
    ∙ ap (λ role. role_by_texts role (value_of (codes "user") (inner_template (codes "p9sk1") template dom))) (role_stays template dom)
    ∙ ap (role_by_texts (value_of (codes "role") template)) (user_stays template dom)
    ∙ sym (role_is template)

-- ---- acts that are no moves

pub still_more : (own : Own) (role : Role) (before : List Labelled) (act : Act) (acts : List Act) → acts_in before ≡ act ∷ acts → is_choosing acts ≡ true → ((label : Tree) → moves_for own role true [] act label ≡ []) → ((more : List Labelled) → acts_in more ≡ acts → moves_by own role more ≡ []) → moves_by own role before ≡ []
still_more own role before act acts is choosing none so =
    let p = more_acts before act acts is in
    moves_next own role before p.1 p.0 [] true act [] p.2 (so p.1 p.4) (ap is_choosing p.4 ∙ choosing) p.3 (none p.0.label)

-- ---- a list with its NUL consents as the list does

pub consents_same : (list : List ℕ) → consents (text_with_nul list) ≡ consents list
consents_same [] = refl
consents_same (a ∷ []) = refl
consents_same (a ∷ b ∷ []) = refl
consents_same (a ∷ b ∷ c ∷ []) = refl
consents_same (a ∷ b ∷ c ∷ d ∷ list) = refl
