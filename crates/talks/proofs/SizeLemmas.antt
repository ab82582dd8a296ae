-- What is left of a budget behind one text and then another, and how a printed tuple is its attributes.
use Rattle.std.proofs.Common.{◌≡◌, ℕ, ◌+◌, ◌-◌, ◌≤◌, ◌<◌, List, [], ◌∷◌, ◌++◌, true, false, leb, length, map, take, drop, get_or, Option, Some, None, refl, sym, ap, ◌∙◌, inl, inr, arith, length-append}
use Rattle.std.specs.Prelude.{is_some}
use Rattle.std.specs.Int.{w16}
use Rattle.std.specs.List.{flat_map}
use Rattle.std.proofs.lemmas.Bool.{cases_Bool, leb-true, leb-false, le-leb, lt-leb}
use Rattle.std.proofs.lemmas.List.{map-id, take_all, take_more, flat_map_more}
use Rattle.wire_base.specs.Readers.{counted}
use Rattle.attr_tuples.specs.declared.attr.Attr.{Attr}
use Rattle.attr_tuples.specs.Printing.{attr_text, printed_text}
use Rattle.attr_tuples.proofs.PrintLemmas.{join-cons}
use Rattle.talks.specs.declared.size.Secrets.{Secrets}
use Rattle.talks.specs.declared.size.Secrets.TheVariants.{Printed}
use Rattle.talks.specs.Sizes.{left, behind, seen, others_text}

left_twice : (budget : Option ℕ) (m n : ℕ) → left (left budget m) n ≡ left budget (m + n)
left_twice None m n = refl
left_twice (Some most) m n = elim (cases_Bool (leb m most)) [
  | inl fits ↦ elim (cases_Bool (leb n (most - m))) [
    | inl more ↦
        let both : leb (m + n) most ≡ true = le-leb _ _ (omega (arith, leb-true _ _ fits, leb-true _ _ more)) in
        let rest : most - m - n ≡ most - (m + n) = omega arith in
        rw (fits, more, both) (ap (λ (x : ℕ). Some x) rest)
    | inr more ↦
        let both : leb (m + n) most ≡ false = lt-leb _ _ (omega (arith, leb-true _ _ fits, leb-false _ _ more)) in
        rw (fits, more, both) refl
  ]
  | inr fits ↦
      let both : leb (m + n) most ≡ false = lt-leb _ _ (omega (arith, leb-false _ _ fits)) in
      rw (fits, both) refl
]

pub behind_both : (budget : Option ℕ) (xs ys : List ℕ) → behind (behind budget xs) ys ≡ behind budget (xs ++ ys)
unfolding behind
behind_both budget xs ys = left_twice budget (length xs) (length ys) ∙ ap (left budget) (sym (length-append xs ys))

pub behind_counted : (budget : Option ℕ) (bytes : List ℕ) → left (left budget 2) (length bytes) ≡ behind budget (counted w16 bytes)
unfolding behind
behind_counted budget bytes =
    let n : ℕ = length bytes in
    let sum : 2 + n ≡ length (counted w16 bytes) = omega arith in
    left_twice budget 2 n ∙ ap (left budget) sum

-- a budget reaches where the text is no longer than it
pub fits_budget : (most : ℕ) (text : List ℕ) → is_some (behind (Some most) text) ≡ leb (length text) most
unfolding behind
fits_budget most text = elim (cases_Bool (leb (length text) most)) [
  | inl fits ↦ rw fits refl
  | inr fits ↦ rw fits refl
]

-- ---- tuples

pub seen_as_is : (attrs : List Attr) → map (seen Printed) attrs ≡ attrs
seen_as_is attrs = map-id attrs

others_joined : (secrets : Secrets) (attrs : List Attr) → flat_map (λ y. 32 ∷ y) (map attr_text (map (seen secrets) attrs)) ≡ others_text secrets attrs
others_joined secrets [] = refl
others_joined secrets (a ∷ attrs) = ap (λ (rest : List ℕ). (32 ∷ attr_text (seen secrets a)) ++ rest) (others_joined secrets attrs)

-- a printed tuple is its first attribute, and then each other behind a blank
printed_cons : (secrets : Secrets) (a : Attr) (attrs : List Attr) → printed_text (map (seen secrets) (a ∷ attrs)) ≡ attr_text (seen secrets a) ++ others_text secrets attrs
unfolding printed_text
printed_cons secrets a attrs =
    join-cons 32 (attr_text (seen secrets a)) (map attr_text (map (seen secrets) attrs))
    ∙ ap (λ (rest : List ℕ). attr_text (seen secrets a) ++ rest) (others_joined secrets attrs)

-- the same of the first attribute and the others of a list that isn't empty
pub first_and_others : (secrets : Secrets) (attrs : List Attr) (first : Attr) → 1 ≤ length attrs → first ≡ get_or attrs 0 first → attr_text (seen secrets first) ++ others_text secrets (take (length attrs - 1) (drop 1 attrs)) ≡ printed_text (map (seen secrets) attrs)
first_and_others secrets [] first long e = absurd (omega arith)
first_and_others secrets (a ∷ attrs) first long e =
    ap (λ (x : Attr). attr_text (seen secrets x) ++ others_text secrets (take (length (a ∷ attrs) - 1) attrs)) e
    ∙ ap (λ (xs : List Attr). attr_text (seen secrets a) ++ others_text secrets xs) (take_all (length (a ∷ attrs) - 1) attrs (omega arith))
    ∙ sym (printed_cons secrets a attrs)

-- ---- loops

pub behind_none : (budget : Option ℕ) → budget ≡ behind budget []
unfolding behind
behind_none None = refl
behind_none (Some most) = rw (le-leb 0 most (omega arith)) (ap (λ (n : ℕ). Some n) (omega arith))

-- one item more is spent
pub item_behind : {X : Type 0} (f : X → List ℕ) (budget now next : Option ℕ) (front : List ℕ) (xs : List X) (i : ℕ) (d : X) → i < length xs → now ≡ behind budget (front ++ flat_map f (take i xs)) → next ≡ behind now (f (get_or xs i d))
    → next ≡ behind budget (front ++ flat_map f (take (i + 1) xs))
item_behind f budget now next front xs i d lt before spent =
    let x = get_or xs i d in
    let front_more : (front ++ flat_map f (take i xs)) ++ f x ≡ front ++ flat_map f (take (i + 1) xs) = flat_map_more f front (take i xs) x ∙ ap (λ ys. front ++ flat_map f ys) (sym (take_more xs i d lt)) in
    spent ∙ (ap (λ (b : Option ℕ). behind b (f x)) before ∙ (behind_both budget (front ++ flat_map f (take i xs)) (f x) ∙ ap (behind budget) front_more))
