-- What is compared of a tuple stays when its secrets are hidden.
use Rattle.std.proofs.Common.{◌≡◌, ℕ, List, [], ◌∷◌, ◌++◌, Bool, true, false, ◌&&◌, eqb, length, map, count_by, refl, sym, ap, subst, ◌∙◌, inl, inr}
use Rattle.std.specs.List.{list_all, list_any, filter}
use Rattle.std.specs.Str.{bytes_eq}
use Rattle.std.proofs.lemmas.Bool.{cases_Bool, eq-eqb, eqb-true, and_parts, or_cases, or_parts}
use Rattle.std.proofs.lemmas.List.Folds.{list_all-append, list_any-append}
use Rattle.std.proofs.lemmas.List.Sums.{length-filter}
use Rattle.std.proofs.lemmas.Slice.Eq.{bytes_eq-Decides}
use Rattle.attr_tuples.specs.declared.attr.Attr.{Attr}
use Rattle.attr_tuples.specs.declared.attr.Value.{Value}
use Rattle.attr_tuples.specs.declared.attr.Value.TheVariants.{Is, Ask, Bare}
use Rattle.attr_tuples.specs.Attributes.{is_secret}
use Rattle.attr_tuples.specs.Printing.{hidden}
use Rattle.attr_tuples.specs.Equality.{public_part, as_often, public_equal, same_attr, same_value}

pub public_part-hidden : (attrs : List Attr) → public_part (map hidden attrs) ≡ public_part attrs
public_part-hidden [] = refl
public_part-hidden (a ∷ attrs) =
    elim (cases_Bool (is_secret a.name)) [
      | inl e ↦ simp e (public_part-hidden attrs)
      | inr e ↦ simp e (ap (λ (xs : List Attr). a ∷ xs) (public_part-hidden attrs))
    ]

-- tuples alike with their secrets hidden have the same public part
pub public_part_alike : (a b : List Attr) → map hidden a ≡ map hidden b → public_part a ≡ public_part b
public_part_alike a b e = sym (public_part-hidden a) ∙ ap public_part e ∙ public_part-hidden b

pub list_all_always : {X : Type 0} (p : X → Bool) → ((x : X) → p x ≡ true) → (xs : List X) → list_all p xs ≡ true
list_all_always p h [] = refl
list_all_always p h (x ∷ xs) = rw (h x) (list_all_always p h xs)

pub list_all_same : {X : Type 0} (p q : X → Bool) → ((x : X) → p x ≡ q x) → (xs : List X) → list_all p xs ≡ list_all q xs
list_all_same p q h [] = refl
list_all_same p q h (x ∷ xs) = rw (h x) (ap (λ (b : Bool). q x && b) (list_all_same p q h xs))

pub eqb_swap : (m n : ℕ) → eqb m n ≡ eqb n m
eqb_swap m n =
    elim (cases_Bool (eqb m n)) [
      | inl e ↦ e ∙ sym (eq-eqb n m (sym (eqb-true m n e)))
      | inr e ↦ elim (cases_Bool (eqb n m)) [
        | inl f ↦ eq-eqb m n (sym (eqb-true n m f)) ∙ sym f
        | inr f ↦ e ∙ sym f
      ]
    ]

and_swap : (x y : Bool) → (x && y) ≡ (y && x)
and_swap true true = refl
and_swap true false = refl
and_swap false true = refl
and_swap false false = refl

pub public_equal_left : (a b c : List Attr) → map hidden a ≡ map hidden b → public_equal a c ≡ public_equal b c
unfolding public_equal
public_equal_left a b c e = ap (λ (part : List Attr). list_all (as_often part (public_part c)) (part ++ public_part c)) (public_part_alike a b e)

pub public_equal_right : (a b c : List Attr) → map hidden a ≡ map hidden b → public_equal c a ≡ public_equal c b
unfolding public_equal
public_equal_right a b c e = ap (λ (part : List Attr). list_all (as_often (public_part c) part) (public_part c ++ part)) (public_part_alike a b e)

pub public_equal_itself : (a : List Attr) → public_equal a a ≡ true
unfolding public_equal
public_equal_itself a = list_all_always (as_often (public_part a) (public_part a)) (λ x. eq-eqb _ _ refl) (public_part a ++ public_part a)

pub public_equal_swap : (a b : List Attr) → public_equal a b ≡ public_equal b a
unfolding public_equal
public_equal_swap a b =
    let x = public_part a in
    let y = public_part b in
    list_all_same (as_often x y) (as_often y x) (λ z. eqb_swap _ _) (x ++ y)
    ∙ list_all-append (as_often y x) x y
    ∙ and_swap (list_all (as_often y x) x) (list_all (as_often y x) y)
    ∙ sym (list_all-append (as_often y x) y x)

-- ---- the test tells of each attribute there is

same_value_is : (v w : Value) → same_value v w ≡ true → v ≡ w
same_value_is (Is x) (Is y) h = ap Is ((bytes_eq-Decides x y).0 h)
same_value_is (Is x) Ask h = absurd cc
same_value_is (Is x) Bare h = absurd cc
same_value_is Ask (Is y) h = absurd cc
same_value_is Ask Ask h = refl
same_value_is Ask Bare h = absurd cc
same_value_is Bare (Is y) h = absurd cc
same_value_is Bare Ask h = absurd cc
same_value_is Bare Bare h = refl

same_attr_is : (a b : Attr) → same_attr a b ≡ true → a ≡ b
same_attr_is a b h =
    let parts = and_parts (bytes_eq a.name b.name) (same_value a.value b.value) h in
    let make : List ℕ → Value → Attr = λ n v. record { name = n; value = v } in
    ap (λ (n : List ℕ). make n a.value) ((bytes_eq-Decides a.name b.name).0 parts.0) ∙ ap (make b.name) (same_value_is a.value b.value parts.1)

-- of a list where each passes one test, and some one another, that one passes both
passes_both : (p q : Attr → Bool) (xs : List Attr) → list_all p xs ≡ true → list_any q xs ≡ true → (x : Attr) × (p x ≡ true) × (q x ≡ true)
passes_both p q [] all any = absurd cc
passes_both p q (x ∷ xs) all any =
    let parts = and_parts (p x) (list_all p xs) all in
    elim (or_cases (q x) (list_any q xs) any) [ inl here ↦ (x, parts.0, here) | inr behind ↦ passes_both p q xs parts.1 behind ]

none_filtered : (p : Attr → Bool) (xs : List Attr) → list_any p xs ≡ false → length (filter p xs) ≡ 0
none_filtered p [] h = refl
none_filtered p (x ∷ xs) h =
    let parts = or_parts (p x) (list_any p xs) h in
    rw parts.0 (none_filtered p xs parts.1)

none_counted : (p : Attr → Bool) (xs : List Attr) → list_any p xs ≡ false → count_by p xs ≡ 0
none_counted p xs h = sym (length-filter p xs) ∙ none_filtered p xs h

pub counts_from_equal : (a b : List Attr) → public_equal a b ≡ true → (x : Attr) → count_by (same_attr x) (public_part a) ≡ count_by (same_attr x) (public_part b)
unfolding public_equal
counts_from_equal a b h x =
    elim (cases_Bool (list_any (same_attr x) (public_part a ++ public_part b))) [
      | inl held ↦
          (let found = passes_both (as_often (public_part a) (public_part b)) (same_attr x) (public_part a ++ public_part b) h held in
          let counts = eqb-true (count_by (same_attr found.0) (public_part a)) (count_by (same_attr found.0) (public_part b)) found.1 in
          subst (λ (y : Attr). count_by (same_attr y) (public_part a) ≡ count_by (same_attr y) (public_part b)) (sym (same_attr_is x found.0 found.2)) counts)
      | inr absent ↦
          (let parts = or_parts (list_any (same_attr x) (public_part a)) (list_any (same_attr x) (public_part b)) (sym (list_any-append (same_attr x) (public_part a) (public_part b)) ∙ absent) in
          none_counted (same_attr x) (public_part a) parts.0 ∙ sym (none_counted (same_attr x) (public_part b) parts.1))
    ]

pub equal_from_counts : (a b : List Attr) → ((x : Attr) → count_by (same_attr x) (public_part a) ≡ count_by (same_attr x) (public_part b)) → public_equal a b ≡ true
unfolding public_equal
equal_from_counts a b h = list_all_always (as_often (public_part a) (public_part b)) (λ x. eq-eqb _ _ (h x)) (public_part a ++ public_part b)
