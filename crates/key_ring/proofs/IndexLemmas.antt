-- An index where keys are looked up, added and dropped.
use Rattle.std.proofs.Common.{◌≡◌, ℕ, zero, suc, ◌+◌, ◌<◌, ◌≤◌, ◌==◌, List, [], ◌∷◌, ◌++◌, Bool, true, false, cond, not, length, map, get_or, take, drop, Option, Some, None, is_eq, is_lt, is_le, Ok, Err, nat_cmp, refl, sym, ap, subst, ◌∙◌, append-nil, inl, inr, arith, ne_eqb, eq-eqb}
use Rattle.std.specs.Prelude.{All, find}
use Rattle.std.specs.List.{filter, insert, remove}
use Rattle.std.specs.List.Sorted.{IsBinarySearchResult, IsPartitionPoint, IsPartitionedBy}
use Rattle.std.specs.Option.{option_or}
use Rattle.std.specs.Ordering.{ordering_index}
use Rattle.std.proofs.lemmas.Bool.{cases_Bool, cases_lt, eqb-false, not_from_false}
use Rattle.std.proofs.lemmas.List.{length-map, get_or-map, take-map, drop-map, get_or-drop, take-append-drop, length-drop}
use Rattle.std.proofs.lemmas.List.Elements.{All-filter, filter-append, filter_passes}
use Rattle.std.proofs.lemmas.List.Folds.{find-append}
use Rattle.std.proofs.lemmas.List.Kept.{AllPairs-filter, IsNonDecreasingBy-filter}
use Rattle.std.proofs.lemmas.List.Sorted.{IsNonDecreasingBy-insert, searched}
use Rattle.attr_tuples.specs.declared.attr.Attr.{Attr}
use Rattle.attr_tuples.specs.Matching.{matches}
use Rattle.key_lists.specs.Lists.{KeyEntry}
use Rattle.key_ring.specs.declared.rank.Order.{Order}
use Rattle.key_ring.specs.Ranks.{IsIndex, IsRising, RankOf, has_rank, matched, numbered, rank_of, stands, stood}
use Rattle.key_ring.proofs.NumberLemmas.{has_number, same_at}
use Rattle.key_ring.proofs.PlaceLemmas.{kept_but_one}
use Rattle.key_ring.proofs.RankLemmas.{All-insert, AllPairs-insert, beyond_rank, eq_between, filters_change, higher_beside, index_of_le, index_of_lt, le_of_index, lower_beside, lt_of_index, none_left, not_eq_of_gt, not_eq_of_lt, not_lt_and_gt, passing_part}

no_key : KeyEntry
no_key = record { tuple = []; serial = 0 }

-- ---- looking up

module _ {order : Order} {keys : List KeyEntry} {serials : List ℕ} (x : IsIndex order keys serials) where
  pub as_long : length serials ≡ length x.entries
  as_long = ap (length {A = ℕ}) x.numbers ∙ length-map x.entries (λ (key : KeyEntry). key.serial)

  -- the key of a number of the index stands where its entry does
  pub seen_at : (rank : RankOf) (k n : ℕ) (d : KeyEntry) → k < length serials → stood order rank (numbered keys (get_or serials k n)) ≡ stands order rank (get_or x.entries k d)
  seen_at rank k n d lt =
      let within : k < length x.entries = omega (arith, lt, as_long) in
      ap (λ (s : ℕ). stood order rank (numbered keys s)) (ap (λ (ss : List ℕ). get_or ss k n) x.numbers ∙ get_or-map (λ (key : KeyEntry). key.serial) x.entries k d n within)
      ∙ ap (stood order rank) (x.known k d within)

  pub lower_parted : (rank : RankOf) → IsPartitionedBy (λ serial. is_lt (stood order rank (numbered keys serial))) serials
  lower_parted rank i j n le lt e =
      let up = x.sorted rank i j no_key le (omega (arith, lt, as_long)) in
      let at_j = ap is_lt (sym (seen_at rank j n no_key lt)) ∙ e in
      let index = index_of_lt _ at_j in
      ap is_lt (seen_at rank i n no_key (omega arith)) ∙ lt_of_index _ (omega (arith, up, index))

  pub upto_parted : (rank : RankOf) → IsPartitionedBy (λ serial. is_le (stood order rank (numbered keys serial))) serials
  upto_parted rank i j n le lt e =
      let up = x.sorted rank i j no_key le (omega (arith, lt, as_long)) in
      let at_j = ap is_le (sym (seen_at rank j n no_key lt)) ∙ e in
      let index = index_of_le _ at_j in
      ap is_le (seen_at rank i n no_key (omega arith)) ∙ le_of_index _ (omega (arith, up, index))

-- the places where the keys of a rank begin and end
abbrev pub IsStart : Order → List KeyEntry → RankOf → List ℕ → ℕ → Type 0
IsStart order keys rank serials at = IsPartitionPoint (λ serial. is_lt (stood order rank (numbered keys serial)) ≡ true) (λ serial. is_lt (stood order rank (numbered keys serial)) ≡ false) serials at

abbrev pub IsEnd : Order → List KeyEntry → RankOf → List ℕ → ℕ → Type 0
IsEnd order keys rank serials at = IsPartitionPoint (λ serial. is_le (stood order rank (numbered keys serial)) ≡ true) (λ serial. is_le (stood order rank (numbered keys serial)) ≡ false) serials at

pub start_before_end : (order : Order) (keys : List KeyEntry) (rank : RankOf) (serials : List ℕ) (start end : ℕ) → start ≤ length serials → IsStart order keys rank serials start → IsEnd order keys rank serials end → start ≤ end
start_before_end order keys rank serials start end le s e = elim (cases_lt end start) [
  | inl lt ↦ absurd (not_lt_and_gt _ (s.0 end 0 (omega arith) lt) (e.1 end 0 (omega arith) (omega arith)))
  | inr more ↦ more
]

pub span_is : (order : Order) (keys : List KeyEntry) (rank : RankOf) (serials : List ℕ) (start end : ℕ) → IsIndex order keys serials → start ≤ length serials → end ≤ length serials → IsStart order keys rank serials start → IsEnd order keys rank serials end → drop start (take end serials) ≡ map (λ key. key.serial) (filter (has_rank order rank) keys)
span_is order keys rank serials start end x les lee s e =
    let f : KeyEntry → ℕ = λ key. key.serial in
    let long = as_long x in
    let part = passing_part (has_rank order rank) x.entries start end (start_before_end order keys rank serials start end les s e) (omega (arith, lee, long))
    (λ k d lt. ap is_eq (sym (seen_at x rank k 0 d (omega (arith, lt, les)))) ∙ not_eq_of_lt _ (s.0 k 0 (omega arith) lt))
    (λ k d le lt. ap is_eq (sym (seen_at x rank k 0 d (omega (arith, lt, lee)))) ∙ eq_between _ (s.1 k 0 le (omega (arith, lt, lee))) (e.0 k 0 (omega arith) lt))
    (λ k d le lt. ap is_eq (sym (seen_at x rank k 0 d (omega (arith, lt, long)))) ∙ not_eq_of_gt _ (e.1 k 0 le (omega (arith, lt, long)))) in
    ap (λ (ss : List ℕ). drop start (take end ss)) x.numbers ∙ ap (drop start) (take-map f end x.entries) ∙ drop-map f start (take end x.entries)
    ∙ ap (map f) (part ∙ x.whole rank)

-- ---- dropping keys

numbered_kept : (p : KeyEntry → Bool) (keys : List KeyEntry) (n : ℕ) (e : KeyEntry) → p e ≡ true → numbered keys n ≡ Some e → numbered (filter p keys) n ≡ Some e
numbered_kept p [] n e h found = found
numbered_kept p (k ∷ keys) n e h found = elim (cases_Bool (has_number n k)) [
  | inl is ↦ (let same : Some k ≡ Some e = rw is at found in
      let here : k ≡ e = cc in
      let kept : p k ≡ true = ap p here ∙ h in
      rw kept (rw is same))
  | inr other ↦ (let later : numbered keys n ≡ Some e = rw other at found in
      elim (cases_Bool (p k)) [
        | inl kept ↦ rw kept (rw other (numbered_kept p keys n e h later))
        | inr gone ↦ rw gone (numbered_kept p keys n e h later)
      ])
]

-- an index without the keys that don't pass
pub index_kept : (p : KeyEntry → Bool) (order : Order) (keys : List KeyEntry) (serials left : List ℕ) (x : IsIndex order keys serials) → left ≡ map (λ key. key.serial) (filter p x.entries) → IsIndex order (filter p keys) left
index_kept p order keys serials left x is = record {
  entries = filter p x.entries;
  numbers = is;
  sorted = λ rank. IsNonDecreasingBy-filter (λ key. ordering_index (stands order rank key)) p x.entries (x.sorted rank);
  whole = λ rank. filters_change (has_rank order rank) p x.entries ∙ ap (filter p) (x.whole rank) ∙ filters_change p (has_rank order rank) keys;
  known = λ k d lt. numbered_kept p keys _ _ (filter_passes p x.entries k d lt) (All-filter p (λ (key : KeyEntry). numbered keys key.serial ≡ Some key) x.entries x.known k d lt);
  apart = AllPairs-filter (λ (first second : KeyEntry). (first.serial == second.serial) ≡ false) p x.entries x.apart;
}

remove-map : {X Y : Type 0} (f : X → Y) (xs : List X) (at : ℕ) → remove (map f xs) at ≡ map f (remove xs at)
remove-map f [] zero = refl
remove-map f [] (suc at) = refl
remove-map f (x ∷ xs) zero = refl
remove-map f (x ∷ xs) (suc at) = ap (λ ys. f x ∷ ys) (remove-map f xs at)

-- an index without one number
pub index_without : (n at : ℕ) (order : Order) (keys : List KeyEntry) (serials : List ℕ) → IsIndex order keys serials → at < length serials → ((d : ℕ) → get_or serials at d ≡ n) → IsIndex order (filter (λ key. not (has_number n key)) keys) (remove serials at)
index_without n at order keys serials x lt is =
    let f : KeyEntry → ℕ = λ key. key.serial in
    let within : at < length x.entries = omega (arith, lt, as_long x) in
    let here : (d : KeyEntry) → (get_or x.entries at d).serial ≡ n = λ d. sym (get_or-map f x.entries at d 0 within) ∙ ap (λ (ss : List ℕ). get_or ss at 0) (sym x.numbers) ∙ is 0 in
    let one = kept_but_one (λ (key : KeyEntry). not (has_number n key)) x.entries at within
    (λ k d less other. not_from_false _ (ne_eqb _ _ (λ same. elim (cases_lt k at) [
      | inl before ↦ eqb-false _ _ (x.apart k at d before within) (same ∙ sym (here d))
      | inr behind ↦ eqb-false _ _ (x.apart at k d (omega (arith, other_place at k behind other)) less) (here d ∙ sym same)
    ])))
    (λ d. ap not (eq-eqb _ _ (here d))) in
    index_kept (λ key. not (has_number n key)) order keys serials (remove serials at) x
    (ap (λ (ss : List ℕ). remove ss at) x.numbers ∙ remove-map f x.entries at ∙ ap (map f) (sym one))
  where
    other_place : (at k : ℕ) → at ≤ k → (k ≡ at → ⊥) → at < k
    other_place at k le ne = elim (cases_lt at k) [ inl lt ↦ lt | inr more ↦ absurd (ne (omega arith)) ]

-- ---- adding a key

found_among : (P : KeyEntry → Type 0) (p : KeyEntry → Bool) (keys : List KeyEntry) (key : KeyEntry) → All P keys → find p keys ≡ Some key → P key
found_among P p [] key all e = absurd cc
found_among P p (k ∷ keys) key all e =
    elim (cases_Bool (p k)) [
      | inl is ↦ (let same : Some k ≡ Some key = rw is at e in let here : k ≡ key = cc in rw (← here) (all 0 k (omega arith)))
      | inr other ↦ found_among P p keys key (λ i d lt. all (suc i) d (omega arith)) (rw other at e)
    ]

none_found : (p : KeyEntry → Bool) (keys : List KeyEntry) → All (λ key. p key ≡ false) keys → find p keys ≡ None
none_found p [] all = refl
none_found p (k ∷ keys) all =
    let first : p k ≡ false = all 0 k (omega arith) in
    rw first (none_found p keys (λ i d lt. all (suc i) d (omega arith)))

insert-map : {X Y : Type 0} (f : X → Y) (xs : List X) (at : ℕ) (y : X) → insert (map f xs) at (f y) ≡ map f (insert xs at y)
insert-map f [] zero y = refl
insert-map f [] (suc at) y = refl
insert-map f (x ∷ xs) zero y = refl
insert-map f (x ∷ xs) (suc at) y = ap (λ ys. f x ∷ ys) (insert-map f xs at y)

pub index_with : (order : Order) (keys : List KeyEntry) (serials : List ℕ) (new : KeyEntry) (at : ℕ) → IsIndex order keys serials → All (λ old. old.serial < new.serial) keys → at ≤ length serials → IsEnd order keys (rank_of order new.tuple) serials at → IsIndex order (keys ++ new ∷ []) (insert serials at new.serial)
index_with order keys serials new at x newest le end =
    let f : KeyEntry → ℕ = λ key. key.serial in
    let long = as_long x in
    let within : at ≤ length x.entries = omega (arith, le, long) in
    let own : RankOf = rank_of order new.tuple in
    let low : (k : ℕ) (d : KeyEntry) → k < at → is_le (stands order own (get_or x.entries k d)) ≡ true = λ k d lt. ap is_le (sym (seen_at x own k 0 d (omega (arith, lt, le)))) ∙ end.0 k 0 (omega arith) lt in
    let high : (k : ℕ) (d : KeyEntry) → at ≤ k → k < length x.entries → is_le (stands order own (get_or x.entries k d)) ≡ false = λ k d more lt. ap is_le (sym (seen_at x own k 0 d (omega (arith, lt, long)))) ∙ end.1 k 0 more (omega (arith, lt, long)) in
    let older : All (λ (key : KeyEntry). key.serial < new.serial) x.entries = λ k d lt. found_among (λ old. old.serial < new.serial) _ keys _ newest (x.known k d lt) in
    let first : find (has_number new.serial) keys ≡ None = none_found (has_number new.serial) keys (λ k d lt. ne_eqb _ _ (λ same. let less = newest k d lt in omega (arith, less, same))) in
    record {
      entries = insert x.entries at new;
      numbers = ap (λ (ss : List ℕ). insert ss at new.serial) x.numbers ∙ insert-map f x.entries at new;
      sorted = λ rank. IsNonDecreasingBy-insert (λ key. ordering_index (stands order rank key)) x.entries at new (x.sorted rank) within
          (λ k d lt. lower_beside (rank_of order (get_or x.entries k d).tuple) own rank (low k d lt))
          (λ k d more lt. higher_beside own (rank_of order (get_or x.entries k d).tuple) rank (high k d more lt));
      whole = λ rank. whole_with order keys new at x rank high;
      known = All-insert (λ (key : KeyEntry). numbered (keys ++ new ∷ []) key.serial ≡ Some key) x.entries at new
          (λ k d lt. find-append (has_number (get_or x.entries k d).serial) keys (new ∷ []) ∙ ap (λ (o : Option KeyEntry). option_or o (find (has_number (get_or x.entries k d).serial) (new ∷ []))) (x.known k d lt))
          (find-append (has_number new.serial) keys (new ∷ []) ∙ ap (λ (o : Option KeyEntry). option_or o (find (has_number new.serial) (new ∷ []))) first ∙ found_itself new);
      apart = AllPairs-insert (λ (a b : KeyEntry). (a.serial == b.serial) ≡ false) x.entries at new x.apart
          (λ k d lt. ne_eqb _ _ (λ same. let less = older k d lt in omega (arith, less, same)))
          (λ k d lt. ne_eqb _ _ (λ same. let less = older k d lt in omega (arith, less, same)));
    }
  where
    found_itself : (new : KeyEntry) → find (has_number new.serial) (new ∷ []) ≡ Some new
    found_itself new = let is : has_number new.serial new ≡ true = eq-eqb _ _ refl in rw is refl

    joined : (front back all : List KeyEntry) (new : KeyEntry) (b : Bool) → front ++ back ≡ all → (b ≡ true → back ≡ []) → front ++ cond b (new ∷ back) back ≡ all ++ cond b (new ∷ []) []
    joined front back all new true parts none =
        let whole : front ≡ all = sym (append-nil front) ∙ ap (λ (ks : List KeyEntry). front ++ ks) (sym (none refl)) ∙ parts in
        ap (λ (ks : List KeyEntry). front ++ new ∷ ks) (none refl) ∙ ap (λ (ks : List KeyEntry). ks ++ new ∷ []) whole
    joined front back all new false parts none = parts ∙ sym (append-nil all)

    whole_with : (order : Order) (keys : List KeyEntry) (new : KeyEntry) (at : ℕ) {serials : List ℕ} (x : IsIndex order keys serials) (rank : RankOf) → ((k : ℕ) (d : KeyEntry) → at ≤ k → k < length x.entries → is_le (stands order (rank_of order new.tuple) (get_or x.entries k d)) ≡ false) → filter (has_rank order rank) (insert x.entries at new) ≡ filter (has_rank order rank) (keys ++ new ∷ [])
    whole_with order keys new at x rank high =
        let p = has_rank order rank in
        let front = take at x.entries in
        let back = drop at x.entries in
        let parts : filter p front ++ filter p back ≡ filter p keys = sym (filter-append p front back) ∙ ap (filter p) (take-append-drop at x.entries) ∙ x.whole rank in
        filter-append p front (new ∷ back)
        ∙ joined (filter p front) (filter p back) (filter p keys) new (p new) parts
        (λ is. none_left p back (λ k d lt. ap (λ (key : KeyEntry). p key) (get_or-drop at x.entries k d) ∙ beyond_rank (rank_of order new.tuple) (rank_of order (get_or x.entries (at + k) d).tuple) rank (high (at + k) d (omega arith) (omega (arith, lt, length-drop at x.entries))) is))
        ∙ sym (filter-append p keys (new ∷ []))

-- the same of what the calls say
pub index_put : (order : Order) (keys : List KeyEntry) (serials seen items : List ℕ) (new : KeyEntry) (rank : RankOf) (at n : ℕ) (put : Bool) → IsIndex order keys serials → All (λ old. old.serial < new.serial) keys → seen ≡ serials → at ≤ length seen → rank ≡ rank_of order new.tuple → (IsPartitionedBy (λ serial. is_le (stood order rank (numbered keys serial))) seen → IsEnd order keys rank seen at) → n ≡ new.serial → items ≡ cond put (insert serials at n) serials → put ≡ true → IsIndex order (keys ++ new ∷ []) items
index_put order keys serials seen items new rank at n put x newest same le own end is made done =
    let here : IsIndex order keys seen = subst (IsIndex order keys) (sym same) x in
    let with_new = index_with order keys seen new at here newest le (subst (λ (r : RankOf). IsEnd order keys r seen at) own (end (upto_parted here rank))) in
    let all : insert seen at new.serial ≡ items = sym (made ∙ ap (λ (b : Bool). cond b (insert serials at n) serials) done ∙ ap (λ (ss : List ℕ). insert ss at n) (sym same) ∙ ap (insert seen at) is) in
    subst (IsIndex order (keys ++ new ∷ [])) all with_new

-- ---- dropping what matches

pub index_unmatched : (template : List Attr) (order : Order) (keys : List KeyEntry) (serials left : List ℕ) → IsIndex order keys serials → left ≡ filter (λ serial. not (matched template (numbered keys serial))) serials → IsIndex order (filter (λ key. not (matches template key.tuple)) keys) left
index_unmatched template order keys serials left x is =
    index_kept (λ key. not (matches template key.tuple)) order keys serials left x
    (is ∙ ap (filter (λ (serial : ℕ). not (matched template (numbered keys serial)))) x.numbers ∙ unmatched template keys x.entries x.known)
  where
    unmatched : (template : List Attr) (keys entries : List KeyEntry) → All (λ key. numbered keys key.serial ≡ Some key) entries → filter (λ serial. not (matched template (numbered keys serial))) (map (λ (key : KeyEntry). key.serial) entries) ≡ map (λ key. key.serial) (filter (λ key. not (matches template key.tuple)) entries)
    unmatched template keys [] known = refl
    unmatched template keys (key ∷ entries) known =
        let first : not (matched template (numbered keys key.serial)) ≡ not (matches template key.tuple) = ap (λ (o : Option KeyEntry). not (matched template o)) (known 0 key (omega arith)) in
        let more = unmatched template keys entries (λ k d lt. known (suc k) d (omega arith)) in
        elim (cases_Bool (not (matches template key.tuple))) [
          | inl t ↦ rw (first ∙ t, t) (ap (λ (ss : List ℕ). key.serial ∷ ss) more)
          | inr f ↦ rw (first ∙ f, f) more
        ]

-- ---- looking for the number of a key among those of its rank

numbers_rise : (keys : List KeyEntry) (p : KeyEntry → Bool) (span : List ℕ) → IsRising keys → span ≡ map (λ key. key.serial) (filter p keys) → (i j : ℕ) → i ≤ j → j < length span → get_or span i 0 ≤ get_or span j 0
numbers_rise keys p span rising is i j le lt =
    let f : KeyEntry → ℕ = λ key. key.serial in
    let kept = AllPairs-filter (λ (a b : KeyEntry). a.serial < b.serial) p keys rising in
    let long : length span ≡ length (filter p keys) = ap (length {A = ℕ}) is ∙ length-map (filter p keys) f in
    let at_i : get_or span i 0 ≡ (get_or (filter p keys) i no_key).serial = ap (λ (ss : List ℕ). get_or ss i 0) is ∙ get_or-map f (filter p keys) i no_key 0 (omega (arith, lt, long)) in
    let at_j : get_or span j 0 ≡ (get_or (filter p keys) j no_key).serial = ap (λ (ss : List ℕ). get_or ss j 0) is ∙ get_or-map f (filter p keys) j no_key 0 (omega (arith, lt, long)) in
    elim (cases_lt i j) [
      | inl less ↦ (let up = kept i j no_key less (omega (arith, lt, long)) in omega (arith, up, at_i, at_j))
      | inr more ↦ (let same : i ≡ j = omega arith in omega (arith, ap (λ (k : ℕ). get_or span k 0) same))
    ]

pub searched_ok : (keys : List KeyEntry) (p : KeyEntry → Bool) (span : List ℕ) (n at : ℕ) → IsRising keys → span ≡ map (λ key. key.serial) (filter p keys) → IsBinarySearchResult (λ y. nat_cmp y n) span (Ok at) → (at < length span) × (get_or span at 0 ≡ n)
searched_ok keys p span n at rising is found = searched span n (Ok at) found (numbers_rise keys p span rising is)

pub searched_err : (keys : List KeyEntry) (p : KeyEntry → Bool) (span : List ℕ) (key : KeyEntry) (n at : ℕ) → IsRising keys → p key ≡ true → numbered keys key.serial ≡ Some key → span ≡ map (λ key. key.serial) (filter p keys) → n ≡ key.serial → IsBinarySearchResult (λ y. nat_cmp y n) span (Err at) → ⊥
searched_err keys p span key n at rising has known is same found =
    let f : KeyEntry → ℕ = λ key. key.serial in
    let sides = searched span n (Err at) found (numbers_rise keys p span rising is) in
    let long : length span ≡ length (filter p keys) = ap (length {A = ℕ}) is ∙ length-map (filter p keys) f in
    let none = none_found (has_number key.serial) (filter p keys) (λ k d lt. ne_eqb _ _ (λ e.
    let at_k : get_or span k 0 ≡ (get_or (filter p keys) k d).serial = ap (λ (ss : List ℕ). get_or ss k 0) is ∙ get_or-map f (filter p keys) k d 0 lt in
    elim (cases_lt k at) [
      | inl less ↦ (let low = sides.1 k less in absurd (omega (arith, low, at_k, e, same)))
      | inr more ↦ (let high = sides.2 k more (omega (arith, lt, long)) in absurd (omega (arith, high, at_k, e, same)))
    ])) in
    let one = numbered_kept p keys key.serial key has known in
    let never : None ≡ Some key = sym none ∙ one in
    cc

pub index_taken : (order : Order) (keys : List KeyEntry) (serials seen items span : List ℕ) (key : KeyEntry) (start at n : ℕ) → IsIndex order keys serials → seen ≡ serials → (at < length span) × (get_or span at 0 ≡ n) → start + length span ≤ length seen → ((k d : ℕ) → k < length span → get_or seen (start + k) d ≡ get_or span k d) → n ≡ key.serial → items ≡ remove serials (start + at) → IsIndex order (filter (λ old. not (old.serial == key.serial)) keys) items
index_taken order keys serials seen items span key start at n x same found bound place is made =
    let here : (d : ℕ) → get_or serials (start + at) d ≡ key.serial = λ d. ap (λ (ss : List ℕ). get_or ss (start + at) d) (sym same) ∙ place at d found.0 ∙ same_at span at d 0 found.0 ∙ found.1 ∙ is in
    let within : start + at < length serials = omega (arith, found.0, bound, ap (length {A = ℕ}) same) in
    subst (IsIndex order (filter (λ old. not (old.serial == key.serial)) keys)) (sym made) (index_without key.serial (start + at) order keys serials x within here)
