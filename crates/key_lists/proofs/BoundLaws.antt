-- A list holds no more keys than it may, and a key that isn't deleted stands where it stood.
use Rattle.std.proofs.Common.{◌≡◌, ◌<◌, ◌≤◌, List, [], ◌∷◌, ◌++◌, Bool, true, false, not, length, refl, ap, ◌∙◌, length-append, inl, inr, arith}
use Rattle.std.specs.List.{filter, list_any}
use Rattle.std.specs.Prelude.{nat_le}
use Rattle.std.proofs.lemmas.Bool.{cases_Bool, leb-false}
use Rattle.std.proofs.lemmas.List.Elements.{filter-append}
use Rattle.attr_tuples.specs.declared.attr.Attr.{Attr}
use Rattle.attr_tuples.specs.Equality.{public_equal}
use Rattle.attr_tuples.specs.Matching.{matches}
use Rattle.key_lists.specs.Lists.{KeyEntry, KeyList, added, deleted, is_full, most_keys, next_entry}
use Rattle.key_lists.specs.Edits.{IsBounded}

-- what passes a test is no more than all, and less where one doesn't pass
kept_few : (p : KeyEntry → Bool) (keys : List KeyEntry) → length (filter (λ key. not (p key)) keys) ≤ length keys
kept_few p [] = omega arith
kept_few p (key ∷ keys) =
    elim (cases_Bool (p key)) [ inl is ↦ simp is (omega (arith, kept_few p keys)) | inr not_so ↦ simp not_so (omega (arith, kept_few p keys)) ]

one_less : (p : KeyEntry → Bool) (keys : List KeyEntry) → list_any p keys ≡ true → length (filter (λ key. not (p key)) keys) < length keys
one_less p [] any = absurd (let f : false ≡ true = any in cc)
one_less p (key ∷ keys) any =
    elim (cases_Bool (p key)) [
      | inl is ↦ simp is (omega (arith, kept_few p keys))
      | inr not_so ↦ simp not_so (let rest : list_any p keys ≡ true = simp not_so at any in omega (arith, one_less p keys rest))
    ]

-- one key more, where the list isn't full or a key is replaced
pub bounded_added : (key : List Attr) (list : KeyList) → IsBounded list → (is_full key list.keys ≡ true → ⊥) → IsBounded (added key list)
bounded_added key list bounded free =
    let same : KeyEntry → Bool = λ old. public_equal key old.tuple in
    let kept = filter (λ old. not (same old)) list.keys in
    let long = length-append kept (next_entry key list ∷ []) in
    elim (cases_Bool (list_any same list.keys)) [
      | inl any ↦ record { few = omega (arith, long, one_less same list.keys any, bounded.few) }
      | inr none ↦ elim (cases_Bool (nat_le most_keys (length list.keys))) [
        | inl many ↦ absurd (free (rw (many, none) refl))
        | inr room ↦ record { few = omega (arith, long, kept_few same list.keys, leb-false most_keys (length list.keys) room) }
      ]
    ]

pub bounded_deleted : (template : List Attr) (list : KeyList) → IsBounded list → IsBounded (deleted template list)
bounded_deleted template list bounded = record { few = omega (arith, kept_few (λ key. matches template key.tuple) list.keys, bounded.few) }

-- ---- what deleting leaves

pub stands_after : (template : List Attr) (list : KeyList) (before after : List KeyEntry) (key : KeyEntry) → list.keys ≡ before ++ key ∷ after → matches template key.tuple ≡ false
    → (deleted template list).keys ≡ (deleted template (record { keys = before; ever_added = list.ever_added })).keys ++ key ∷ (deleted template (record { keys = after; ever_added = list.ever_added })).keys
stands_after template list before after key all other =
    let keep : KeyEntry → Bool = λ k. not (matches template k.tuple) in
    ap (filter keep) all ∙ filter-append keep before (key ∷ after) ∙ simp other refl
