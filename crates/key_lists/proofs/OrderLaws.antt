-- Adding and deleting keep the numbers rising and the keys apart.
use Rattle.std.proofs.Common.{◌≡◌, ℕ, ◌+◌, ◌<◌, ◌≤◌, List, [], ◌∷◌, Bool, false, not, length, get_or, refl, ap, ◌∙◌, inl, inr, arith}
use Rattle.std.specs.List.{filter}
use Rattle.std.proofs.lemmas.Bool.{cases_Bool, not-true}
use Rattle.std.proofs.lemmas.List.Kept.{AllPairs-filter}
use Rattle.std.proofs.lemmas.List.Quantifiers.{all_pairs_push}
use Rattle.std.proofs.lemmas.List.Elements.{All-filter, All-push, filter_passes}
use Rattle.attr_tuples.specs.declared.attr.Attr.{Attr}
use Rattle.attr_tuples.specs.Equality.{public_equal}
use Rattle.attr_tuples.specs.Matching.{matches}
use Rattle.attr_tuples.proofs.EqualityLemmas.{public_equal_swap}
use Rattle.key_lists.specs.Lists.{KeyEntry, KeyList, added, deleted, next_entry, matching}
use Rattle.key_lists.specs.Edits.{KeyEdit, Add, Delete, keys_after, IsOrdered}

-- what is asked of two keys, the first of which stands before the second, and of each
abbrev pub Rises : KeyEntry → KeyEntry → Type 0
Rises first second = first.serial < second.serial

abbrev pub Differs : KeyEntry → KeyEntry → Type 0
Differs first second = public_equal first.tuple second.tuple ≡ false

abbrev pub Counts : ℕ → KeyEntry → Type 0
Counts count key = (1 ≤ key.serial) × (key.serial ≤ count)

pub ordered_deleted : (template : List Attr) (list : KeyList) → IsOrdered list → IsOrdered (deleted template list)
ordered_deleted template list o =
    let keep : KeyEntry → Bool = λ key. not (matches template key.tuple) in
    record {
      rising = AllPairs-filter Rises keep list.keys o.rising;
      counted = All-filter keep (Counts list.ever_added) list.keys o.counted;
      apart = AllPairs-filter Differs keep list.keys o.apart;
    }

pub ordered_added : (key : List Attr) (list : KeyList) → IsOrdered list → IsOrdered (added key list)
ordered_added key list o =
    let keep : KeyEntry → Bool = λ old. not (public_equal key old.tuple) in
    let kept = filter keep list.keys in
    let counted = All-filter keep (Counts list.ever_added) list.keys o.counted in
    let passes = filter_passes keep list.keys in
    record {
      rising = all_pairs_push Rises kept (next_entry key list) (AllPairs-filter Rises keep list.keys o.rising) (λ k d lt. omega (arith, counted k d lt));
      counted = All-push (Counts (list.ever_added + 1)) kept (next_entry key list) (λ k d lt. (omega (arith, counted k d lt), omega (arith, counted k d lt))) (omega arith, omega arith);
      apart = all_pairs_push Differs kept (next_entry key list) (AllPairs-filter Differs keep list.keys o.apart) (λ k d lt. public_equal_swap (get_or kept k d).tuple key ∙ not-true _ (passes k d lt));
    }

pub ordered_after : (lines : List KeyEdit) → IsOrdered (keys_after lines)
ordered_after [] = record { rising = λ i j d lt le. absurd (omega arith); counted = λ k d lt. absurd (omega arith); apart = λ i j d lt le. absurd (omega arith) }
ordered_after (Add key ∷ before) = ordered_added key (keys_after before) (ordered_after before)
ordered_after (Delete template ∷ before) = ordered_deleted template (keys_after before) (ordered_after before)

-- ---- what matches

keeps_all : (p : KeyEntry → Bool) (keys : List KeyEntry) → length (filter p keys) ≡ 0 → filter (λ key. not (p key)) keys ≡ keys
keeps_all p [] e = refl
keeps_all p (key ∷ keys) e =
    elim (cases_Bool (p key)) [
      | inl t ↦ absurd (let more = simp t at e in omega (arith, more))
      | inr f ↦ simp f (ap (λ (rest : List KeyEntry). key ∷ rest) (keeps_all p keys (simp f at e)))
    ]

pub nothing_deleted : (template : List Attr) (list : KeyList) → matching template list ≡ 0 → deleted template list ≡ list
nothing_deleted template list none = ap (λ (keys : List KeyEntry). record { keys = keys; ever_added = list.ever_added }) (keeps_all (λ key. matches template key.tuple) list.keys none)

none_left : (p : KeyEntry → Bool) (keys : List KeyEntry) → length (filter p (filter (λ key. not (p key)) keys)) ≡ 0
none_left p [] = refl
none_left p (key ∷ keys) = elim (cases_Bool (p key)) [ inl t ↦ simp t (none_left p keys) | inr f ↦ simp (f, f) (none_left p keys) ]

pub all_deleted : (template : List Attr) (list : KeyList) → matching template (deleted template list) ≡ 0
all_deleted template list = none_left (λ key. matches template key.tuple) list.keys
