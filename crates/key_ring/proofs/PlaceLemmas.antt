-- Keys that are dropped, and places of keys.
use Rattle.std.proofs.Common.{◌≡◌, ℕ, zero, suc, ◌+◌, ◌<◌, ◌≤◌, List, [], ◌∷◌, Bool, true, false, ◌&&◌, leb, not, length, get_or, drop, Some, None, refl, sym, ap, ◌∙◌, inl, inr, arith}
use Rattle.std.specs.List.{filter, remove, AllPairs, list_any, position, position_or_len, after_first}
use Rattle.std.proofs.lemmas.Bool.{cases_Bool, cases_lt, and_from, not_from_false, le-leb, lt-ltb, le-ltb}
use Rattle.std.proofs.lemmas.List.{drop_all}
use Rattle.std.proofs.lemmas.List.Folds.{list_any_none, list_any_at}
use Rattle.std.proofs.lemmas.List.Sums.{fails_before_first}
use Rattle.std.proofs.lemmas.List.Quantifiers.{position-Some}
use Rattle.attr_tuples.specs.declared.attr.Attr.{Attr}
use Rattle.attr_tuples.specs.Equality.{public_equal}
use Rattle.attr_tuples.proofs.EqualityLemmas.{counts_from_equal, equal_from_counts}
use Rattle.key_lists.specs.Lists.{KeyEntry, is_full}

-- a list whose elements all pass is kept
pub kept_whole : {X : Type 0} (p : X → Bool) (xs : List X) → ((k : ℕ) (d : X) → k < length xs → p (get_or xs k d) ≡ true) → filter p xs ≡ xs
kept_whole p [] h = refl
kept_whole p (x ∷ xs) h =
    let first : p x ≡ true = h 0 x (omega arith) in
    rw first (ap (λ ys. x ∷ ys) (kept_whole p xs (λ k d lt. h (suc k) d (omega arith))))

-- a list in which one element alone fails is kept without it
pub kept_but_one : {X : Type 0} (p : X → Bool) (xs : List X) (at : ℕ) → at < length xs → ((k : ℕ) (d : X) → k < length xs → (k ≡ at → ⊥) → p (get_or xs k d) ≡ true) → ((d : X) → p (get_or xs at d) ≡ false) → filter p xs ≡ remove xs at
kept_but_one p [] at lt others one = absurd (omega arith)
kept_but_one p (x ∷ xs) zero lt others one =
    let first : p x ≡ false = one x in
    rw first (kept_whole p xs (λ k d le. others (suc k) d (omega arith) (λ e. omega arith)))
kept_but_one p (x ∷ xs) (suc at) lt others one =
    let first : p x ≡ true = others 0 x (omega arith) (λ e. omega arith) in
    rw first (ap (λ ys. x ∷ ys) (kept_but_one p xs at (omega arith) (λ k d le ne. others (suc k) d (omega arith) (λ e. ne (omega arith))) one))

-- ---- the key that is the same in public

alike_alike : (key a b : List Attr) → public_equal key a ≡ true → public_equal key b ≡ true → public_equal a b ≡ true
alike_alike key a b ea eb = equal_from_counts a b (λ x. sym (counts_from_equal key a ea x) ∙ counts_from_equal key b eb x)

abbrev pub Differs : KeyEntry → KeyEntry → Type 0
Differs first second = public_equal first.tuple second.tuple ≡ false

abbrev pub is_same : List Attr → KeyEntry → Bool
is_same key old = public_equal key old.tuple

same_at : (key : List Attr) (keys : List KeyEntry) (at : ℕ) (k : ℕ) (d : KeyEntry) → AllPairs Differs keys → is_same key (get_or keys at d) ≡ true → at < length keys → k < length keys → (k ≡ at → ⊥) → is_same key (get_or keys k d) ≡ false
same_at key keys at k d apart same lt le ne = elim (cases_Bool (is_same key (get_or keys k d))) [
  | inl t ↦ absurd (elim (cases_lt k at) [
    | inl before ↦ (let e = apart k at d before lt in let f = alike_alike key (get_or keys k d).tuple (get_or keys at d).tuple t same in cc)
    | inr behind ↦ (let e = apart at k d (omega arith) le in let f = alike_alike key (get_or keys at d).tuple (get_or keys k d).tuple same t in cc)
  ])
  | inr f ↦ f
]

-- the one key that is the same is dropped
pub same_dropped : (key : List Attr) (keys : List KeyEntry) (at : ℕ) → AllPairs Differs keys → position (is_same key) keys ≡ Some at → filter (λ old. not (is_same key old)) keys ≡ remove keys at
same_dropped key keys at apart e =
    kept_but_one (λ old. not (is_same key old)) keys at (position-Some (is_same key) keys at (record { tuple = []; serial = 0 }) e).0
    (λ k d lt ne. not_from_false _ (same_at key keys at k d apart (position-Some (is_same key) keys at d e).1 (position-Some (is_same key) keys at d e).0 lt ne))
    (λ d. ap not (position-Some (is_same key) keys at d e).1)

-- where none passes none does at any place
pub none_passes : (p : KeyEntry → Bool) (keys : List KeyEntry) → position p keys ≡ None → (k : ℕ) (d : KeyEntry) → k < length keys → p (get_or keys k d) ≡ false
none_passes p keys e k d lt = elim (cases_lt (position_or_len p keys) (length keys)) [
  | inl at ↦ absurd (let s : Some (position_or_len p keys) ≡ None = rw lt-ltb at e in cc)
  | inr le ↦ fails_before_first p keys k d (omega arith)
]

-- where none is the same all are kept
none_at : (p : KeyEntry → Bool) (keys : List KeyEntry) → position p keys ≡ None → list_any p keys ≡ false
none_at p keys e = list_any_none p keys (none_passes p keys e)

pub none_dropped : (key : List Attr) (keys : List KeyEntry) → position (is_same key) keys ≡ None → filter (λ old. not (is_same key old)) keys ≡ keys
none_dropped key keys e = kept_whole (λ old. not (is_same key old)) keys (λ k d lt. not_from_false _ (none_passes (is_same key) keys e k d lt))

-- ---- a full list

pub full_with_none : (key : List Attr) (keys : List KeyEntry) → position (is_same key) keys ≡ None → 4096 ≤ length keys → is_full key keys ≡ true
full_with_none key keys e le = and_from _ _ (le-leb 4096 (length keys) le) (not_from_false _ (none_at (is_same key) keys e))

pub room_of_same : (key : List Attr) (keys : List KeyEntry) (at : ℕ) → position (is_same key) keys ≡ Some at → is_full key keys ≡ false
room_of_same key keys at e =
    let d : KeyEntry = record { tuple = []; serial = 0 } in
    let found = position-Some (is_same key) keys at d e in
    ap (λ (b : Bool). leb 4096 (length keys) && not b) (list_any_at (is_same key) keys at d found.0 found.1) ∙ and_no (leb 4096 (length keys))
  where
    and_no : (b : Bool) → (b && false) ≡ false
    and_no true = refl
    and_no false = refl

-- ---- what stands behind a key

pub behind_at : (p : KeyEntry → Bool) (keys : List KeyEntry) (at : ℕ) → position p keys ≡ Some at → drop (at + 1) keys ≡ after_first p keys
behind_at p keys at e = elim (cases_lt (position_or_len p keys) (length keys)) [
  | inl lt ↦ (let s : Some (position_or_len p keys) ≡ Some at = rw lt-ltb at e in let same : position_or_len p keys ≡ at = cc in ap (λ n. drop (n + 1) keys) (sym same))
  | inr le ↦ absurd (let s : None ≡ Some at = rw le-ltb at e in cc)
]

pub behind_none : (p : KeyEntry → Bool) (keys : List KeyEntry) → position p keys ≡ None → [] ≡ after_first p keys
behind_none p keys e = elim (cases_lt (position_or_len p keys) (length keys)) [
  | inl lt ↦ absurd (let s : Some (position_or_len p keys) ≡ None = rw lt-ltb at e in cc)
  | inr le ↦ sym (drop_all (position_or_len p keys + 1) keys (omega arith))
]
