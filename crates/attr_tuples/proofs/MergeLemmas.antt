-- Merged tuples are a tuple, where they have at most 36 attributes.
use Rattle.std.proofs.Common.{◌≡◌, ℕ, ◌-◌, ◌≤◌, List, [], ◌∷◌, Bool, true, leb, length, refl, ap, ◌∙◌, inl, inr, arith, length-append}
use Rattle.std.specs.List.{list_all, filter}
use Rattle.std.proofs.lemmas.Bool.{cases_Bool, and_parts, and_from, leb-true, le-leb}
use Rattle.std.proofs.lemmas.List.Folds.{list_all-append}
use Rattle.attr_tuples.specs.declared.attr.Attr.{Attr}
use Rattle.attr_tuples.specs.Attributes.{is_attr, is_tuple}
use Rattle.attr_tuples.specs.Merging.{is_new, merged}

kept_attrs : (p : Attr → Bool) (attrs : List Attr) → list_all is_attr attrs ≡ true → list_all is_attr (filter p attrs) ≡ true
kept_attrs p [] h = refl
kept_attrs p (a ∷ attrs) h =
    let both = and_parts (is_attr a) (list_all is_attr attrs) h in
    elim (cases_Bool (p a)) [
      | inl keep ↦ rw keep (and_from (is_attr a) (list_all is_attr (filter p attrs)) both.0 (kept_attrs p attrs both.1))
      | inr leave ↦ rw leave (kept_attrs p attrs both.1)
    ]

pub merged_fits : (a b list : List Attr) (count : ℕ) → is_tuple a ≡ true → is_tuple b ≡ true → count ≡ length (filter (is_new a) b) → count ≤ 36 - length a → list ≡ merged a b → is_tuple list ≡ true
merged_fits a b list count first second counted few is =
    let x = and_parts (leb (length a) 36) (list_all is_attr a) first in
    let y = and_parts (leb (length b) 36) (list_all is_attr b) second in
    let long : length (merged a b) ≤ 36 = omega (arith, counted, few, leb-true (length a) 36 x.0, length-append a (filter (is_new a) b)) in
    ap is_tuple is ∙ and_from (leb (length (merged a b)) 36) (list_all is_attr (merged a b)) (le-leb (length (merged a b)) 36 long)
    (list_all-append is_attr a (filter (is_new a) b) ∙ and_from (list_all is_attr a) (list_all is_attr (filter (is_new a) b)) x.1 (kept_attrs (is_new a) b y.1))
