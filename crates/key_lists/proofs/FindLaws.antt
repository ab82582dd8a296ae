-- What is found serves, and comes in the order of the list.
use Rattle.std.proofs.Common.{◌≡◌, ℕ, zero, suc, ◌+◌, ◌<◌, ◌≤◌, ◌==◌, List, [], ◌∷◌, ◌++◌, Bool, true, false, Some, length, drop, get_or, refl, sym, ap, ◌∙◌, append_assoc, length-append, inl, inr, arith}
use Rattle.std.specs.Prelude.{All, AllPairs, find}
use Rattle.std.specs.List.{after_first, filter, position_or_len}
use Rattle.std.proofs.lemmas.Bool.{cases_Bool, eqb-true, eqb-false}
use Rattle.std.proofs.lemmas.List.Elements.{All-nil}
use Rattle.attr_tuples.specs.declared.attr.Attr.{Attr}
use Rattle.key_lists.specs.Lists.{KeyEntry, KeyList, first_serving, next_serving, serves}
use Rattle.key_lists.specs.Edits.{IsOrdered}
use Rattle.key_lists.specs.Finding.{in_turn}
use Rattle.key_lists.proofs.OrderLaws.{Rises}

-- whether a key has a number
abbrev is_numbered : ℕ → KeyEntry → Bool
is_numbered number key = key.serial == number

-- what is found passes the test, and is one of the list
found_passes : (p : KeyEntry → Bool) (keys : List KeyEntry) (key : KeyEntry) → find p keys ≡ Some key → p key ≡ true
found_passes p [] key e = absurd cc
found_passes p (k ∷ keys) key e =
    elim (cases_Bool (p k)) [
      | inl is ↦ (let same : Some k ≡ Some key = simp is at e in let here : k ≡ key = cc in rw (← here) is)
      | inr no_pass ↦ found_passes p keys key (simp no_pass at e)
    ]

found_within : (p : KeyEntry → Bool) (Q : KeyEntry → Type 0) (keys : List KeyEntry) (key : KeyEntry) → All Q keys → find p keys ≡ Some key → Q key
found_within p Q [] key all e = absurd cc
found_within p Q (k ∷ keys) key all e =
    elim (cases_Bool (p k)) [
      | inl is ↦ (let same : Some k ≡ Some key = simp is at e in let here : k ≡ key = cc in rw (← here) (all 0 k (omega arith)))
      | inr no_pass ↦ found_within p Q keys key (λ i d lt. all (suc i) d (omega (arith, lt))) (simp no_pass at e)
    ]

-- the numbers rise in what stands behind the first key too
rising_behind : (k : KeyEntry) (keys : List KeyEntry) → AllPairs Rises (k ∷ keys) → AllPairs Rises keys
rising_behind k keys rising i j d lt within = rising (suc i) (suc j) d (omega (arith, lt)) (omega (arith, within))

-- what stands behind the first key that passes, where another key stands in front
behind_other : (p : KeyEntry → Bool) (k : KeyEntry) (keys : List KeyEntry) → p k ≡ false → after_first p (k ∷ keys) ≡ after_first p keys
behind_other p k keys e =
    let n = position_or_len p keys in
    let more : 1 + n + 1 ≡ suc (n + 1) = omega arith in
    simp e (ap (λ (m : ℕ). drop m (k ∷ keys)) more)

-- behind the key of a number stand keys of greater numbers
greater_behind : (number : ℕ) (keys : List KeyEntry) → AllPairs Rises keys → All (λ key. number < key.serial) (after_first (is_numbered number) keys)
greater_behind number [] rising = All-nil (λ key. number < key.serial)
greater_behind number (k ∷ keys) rising =
    elim (cases_Bool (is_numbered number k)) [
      | inl is ↦ simp is (λ i d lt. (let first = rising 0 (suc i) d (omega arith) (omega (arith, lt)) in let same = eqb-true k.serial number is in omega (arith, first, same)))
      | inr other ↦ rw (behind_other (is_numbered number) k keys other) (greater_behind number keys (rising_behind k keys rising))
    ]

pub first_serves : (template : List Attr) (role : List ℕ) (list : KeyList) (key : KeyEntry) → first_serving template role list ≡ Some key → serves template role key ≡ true
first_serves template role list key e = found_passes (serves template role) list.keys key e

pub next_serves : (template : List Attr) (role : List ℕ) (number : ℕ) (list : KeyList) (key : KeyEntry) → next_serving template role number list ≡ Some key → serves template role key ≡ true
next_serves template role number list key e = found_passes (serves template role) (after_first (is_numbered number) list.keys) key e

pub next_greater : (template : List Attr) (role : List ℕ) (number : ℕ) (list : KeyList) (key : KeyEntry) → IsOrdered list → next_serving template role number list ≡ Some key → number < key.serial
next_greater template role number list key o e =
    found_within (serves template role) (λ k. number < k.serial) (after_first (is_numbered number) list.keys) key (greater_behind number list.keys o.rising) e

-- ---- one after the other

-- the key that stands behind others
stands_there : (before keys : List KeyEntry) (k d : KeyEntry) → get_or (before ++ k ∷ keys) (length before) d ≡ k
stands_there [] keys k d = refl
stands_there (b ∷ before) keys k d = stands_there before keys k d

-- behind a key of the list stands what stands behind it
behind_it : (before keys : List KeyEntry) (k : KeyEntry) → AllPairs Rises (before ++ k ∷ keys) → after_first (is_numbered k.serial) (before ++ k ∷ keys) ≡ keys
behind_it [] keys k rising =
    elim (cases_Bool (is_numbered k.serial k)) [ inl is ↦ simp is refl | inr other ↦ absurd (eqb-false k.serial k.serial other refl) ]
behind_it (b ∷ before) keys k rising =
    let long = length-append before (k ∷ keys) in
    let first : b.serial < (get_or (before ++ k ∷ keys) (length before) k).serial = rising 0 (suc (length before)) k (omega arith) (omega (arith, long)) in
    let less : b.serial < k.serial = rw (stands_there before keys k k) at first in
    elim (cases_Bool (is_numbered k.serial b)) [
      | inl is ↦ absurd (let same = eqb-true b.serial k.serial is in omega (arith, less, same))
      | inr other ↦ behind_other (is_numbered k.serial) b (before ++ k ∷ keys) other ∙ behind_it before keys k (rising_behind b (before ++ k ∷ keys) rising)
    ]

turns_from : (template : List Attr) (role : List ℕ) (list : KeyList) (before keys : List KeyEntry) (turns : ℕ) → list.keys ≡ before ++ keys → AllPairs Rises list.keys → length keys ≤ turns → in_turn template role list turns (find (serves template role) keys) ≡ filter (serves template role) keys
turns_from template role list before [] turns all rising few = refl
turns_from template role list before (k ∷ keys) zero all rising few = absurd (omega (arith, few))
turns_from template role list before (k ∷ keys) (suc turns) all rising few =
    let shifted : list.keys ≡ (before ++ k ∷ []) ++ keys = all ∙ sym (append_assoc before (k ∷ []) keys) in
    let next : next_serving template role k.serial list ≡ find (serves template role) keys =
    ap (λ (l : List KeyEntry). find (serves template role) (after_first (is_numbered k.serial) l)) all
    ∙ ap (find (serves template role)) (behind_it before keys k (rw all at rising)) in
    elim (cases_Bool (serves template role k)) [
      | inl is ↦ simp is (ap (λ (l : List KeyEntry). k ∷ l) (ap (in_turn template role list turns) next ∙ turns_from template role list (before ++ k ∷ []) keys turns shifted rising (omega (arith, few))))
      | inr no_pass ↦ simp no_pass (turns_from template role list (before ++ k ∷ []) keys (suc turns) shifted rising (omega (arith, few)))
    ]

pub found_in_turn : (template : List Attr) (role : List ℕ) (list : KeyList) (turns : ℕ) → IsOrdered list → length list.keys ≤ turns → in_turn template role list turns (first_serving template role list) ≡ filter (serves template role) list.keys
found_in_turn template role list turns o few = turns_from template role list [] list.keys turns refl o.rising few
