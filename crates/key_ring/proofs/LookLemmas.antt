-- Keys that are looked for by their numbers.
use Rattle.std.proofs.Common.{◌≡◌, ℕ, zero, suc, ◌+◌, ◌<◌, ◌≤◌, ◌==◌, List, [], ◌∷◌, Bool, true, false, cond, not, leb, length, map, get_or, drop, take, Option, Some, None, refl, sym, ap, subst, ◌∙◌, inl, inr, arith, ne_eqb, eq-eqb, eqb-true, lt-ltb, le-ltb, leb-true, leb-false}
use Rattle.std.specs.Prelude.{All, AllPairs, find, position, nat_lt}
use Rattle.std.specs.List.{after_first, filter, position_or_len, remove, slice_get}
use Rattle.std.specs.List.Sorted.{IsNonDecreasingBy, IsPartitionPoint}
use Rattle.std.specs.Option.{option_or}
use Rattle.std.proofs.lemmas.Bool.{cases_lt, not_from_false}
use Rattle.std.proofs.lemmas.List.{get_or-map, length-map, take_all}
use Rattle.std.proofs.lemmas.List.Kept.{AllPairs-filter}
use Rattle.std.proofs.lemmas.List.Elements.{All-filter, All-cons}
use Rattle.std.proofs.lemmas.List.Folds.{find_at}
use Rattle.std.proofs.lemmas.List.Sums.{position_or_len_is}
use Rattle.std.proofs.lemmas.List.Quantifiers.{position-Some}
use Rattle.key_lists.specs.KeyFaults.{key_fault}
use Rattle.key_lists.specs.Lists.{KeyEntry}
use Rattle.key_ring.specs.declared.rank.Order.TheVariants as o
use Rattle.key_ring.specs.declared.wanted.Wanted.{Wanted}
use Rattle.key_ring.specs.Indexed.{IsIndexed}
use Rattle.key_ring.specs.Ranks.{IsIndex, IsRising, numbered}
use Rattle.key_ring.specs.Wanting.{first_of, if_passes, passes}
use Rattle.key_ring.proofs.NumberLemmas.{get_at, has_number, same_at}
use Rattle.key_ring.proofs.PlaceLemmas.{behind_at, kept_but_one, kept_whole, none_passes}
use Rattle.key_ring.proofs.RankLemmas.{filters_change, passing_part}

-- ---- keys of a list are found by their numbers

rising_rest : (k : KeyEntry) (keys : List KeyEntry) → IsRising (k ∷ keys) → IsRising keys
rising_rest k keys rising i j d lt within = rising (suc i) (suc j) d (omega arith) (omega arith)

pub all_known : (keys : List KeyEntry) → IsRising keys → All (λ key. numbered keys key.serial ≡ Some key) keys
all_known [] rising = λ k d lt. absurd (omega arith)
all_known (key ∷ keys) rising =
    All-cons (λ (k : KeyEntry). numbered (key ∷ keys) k.serial ≡ Some k) key keys
    (let is : has_number key.serial key ≡ true = eq-eqb _ _ refl in rw is refl)
    (λ k d lt.
    let up = rising 0 (suc k) d (omega arith) (omega arith) in
    let other : has_number (get_or keys k d).serial key ≡ false = ne_eqb _ _ (λ same. omega (arith, up, same)) in
    rw other (all_known keys (rising_rest key keys rising) k d lt))

-- a key that stands at a place
pub known_at : (keys seen : List KeyEntry) (at : ℕ) (key : KeyEntry) → IsRising keys → seen ≡ keys → at < length keys → key ≡ get_or keys at key → numbered seen key.serial ≡ Some key
known_at keys seen at key rising same lt is = ap (λ (ks : List KeyEntry). numbered ks key.serial) same ∙ subst (λ (k : KeyEntry). numbered keys k.serial ≡ Some k) (sym is) (all_known keys rising at key lt)

-- the first that is wanted among the numbers of known keys is the first among these keys
first_known : (wanted : Wanted) (keys entries : List KeyEntry) → All (λ key. numbered keys key.serial ≡ Some key) entries → first_of wanted keys (map (λ key. key.serial) entries) ≡ find (passes wanted) entries
first_known wanted keys [] known = refl
first_known wanted keys (key ∷ entries) known =
    let here : numbered keys key.serial ≡ Some key = known 0 key (omega arith) in
    let more = first_known wanted keys entries (λ k d lt. known (suc k) d (omega arith)) in
    ap (λ (o : Option KeyEntry). option_or (if_passes wanted o) (first_of wanted keys (map (λ (k : KeyEntry). k.serial) entries))) here
    ∙ step (passes wanted key) key (first_of wanted keys (map (λ (k : KeyEntry). k.serial) entries)) (find (passes wanted) entries) more
  where
    step : (b : Bool) (key : KeyEntry) (r s : Option KeyEntry) → r ≡ s → option_or (cond b (Some key) None) r ≡ cond b (Some key) s
    step true key r s e = refl
    step false key r s e = e

-- a test that only passes what another passes finds the same among what that one leaves
find_left : (p c : KeyEntry → Bool) (keys : List KeyEntry) → All (λ key. p key ≡ true → c key ≡ true) keys → find p (filter c keys) ≡ find p keys
find_left p c [] h = refl
find_left p c (key ∷ keys) h = step key keys (p key) (c key) refl refl (h 0 key (omega arith)) (find_left p c keys (λ k d lt. h (suc k) d (omega arith)))
  where
    step : (key : KeyEntry) (keys : List KeyEntry) (b l : Bool) → p key ≡ b → c key ≡ l → (p key ≡ true → c key ≡ true) → find p (filter c keys) ≡ find p keys → find p (cond (c key) (key ∷ filter c keys) (filter c keys)) ≡ cond (p key) (Some key) (find p keys)
    step key keys true true eb el h more = rw (eb, el) (rw eb refl)
    step key keys true false eb el h more = absurd (let never = sym el ∙ h eb in cc)
    step key keys false true eb el h more = rw (eb, el) (rw eb more)
    step key keys false false eb el h more = rw (eb, el) more

pub found_among : (wanted : Wanted) (c : KeyEntry → Bool) (keys : List KeyEntry) (serials : List ℕ) → IsRising keys → serials ≡ map (λ key. key.serial) (filter c keys) → All (λ key. passes wanted key ≡ true → c key ≡ true) keys → first_of wanted keys serials ≡ find (passes wanted) keys
found_among wanted c keys serials rising is asked =
    ap (first_of wanted keys) is
    ∙ first_known wanted keys (filter c keys) (All-filter c (λ (key : KeyEntry). numbered keys key.serial ≡ Some key) keys (all_known keys rising))
    ∙ find_left (passes wanted) c keys asked

-- ---- the place of what is found

got : {X : Type 0} (xs : List X) (i : ℕ) (x : X) → slice_get xs i ≡ Some x → (i < length xs) × ((d : X) → get_or xs i d ≡ x)
got [] i x e = absurd cc
got (y ∷ xs) zero x e = (omega arith, λ d. let same : y ≡ x = cc in same)
got (y ∷ xs) (suc i) x e = let more = got xs i x e in (omega (arith, more.0), more.1)

pub place_of_found : (p : KeyEntry → Bool) (keys : List KeyEntry) (key : KeyEntry) → IsRising keys → find p keys ≡ Some key → position (has_number key.serial) keys ≡ position p keys
place_of_found p keys key rising e =
    let i = position_or_len p keys in
    let at = got keys i key (sym (find_at p keys) ∙ e) in
    let same = position_or_len_is (has_number key.serial) keys i key (omega (arith, at.0))
    (λ k lt. ne_eqb _ _ (λ s. let up = rising k i key lt at.0 in let here = ap (λ (x : KeyEntry). x.serial) (at.1 key) in omega (arith, up, here, s)))
    (λ _. eq-eqb _ _ (ap (λ (x : KeyEntry). x.serial) (at.1 key))) in
    ap (λ (n : ℕ). cond (nat_lt n (length keys)) (Some n) None) same

pub place_of_none : (p : KeyEntry → Bool) (keys : List KeyEntry) → find p keys ≡ None → None ≡ position p keys
place_of_none p keys e = elim (cases_lt (position_or_len p keys) (length keys)) [
  | inl lt ↦ absurd (let d : KeyEntry = record { tuple = []; serial = 0 } in let never = sym e ∙ find_at p keys ∙ get_at keys (position_or_len p keys) d lt in cc)
  | inr le ↦ rw le-ltb refl
]

-- ---- keys behind a number

pub numbers_rise : (c : KeyEntry → Bool) (keys : List KeyEntry) (serials : List ℕ) → IsRising keys → serials ≡ map (λ key. key.serial) (filter c keys) → AllPairs (λ first second. first < second) serials
numbers_rise c keys serials rising is i j d lt within =
    let f : KeyEntry → ℕ = λ key. key.serial in
    let e : KeyEntry = record { tuple = []; serial = 0 } in
    let long : length serials ≡ length (filter c keys) = ap (length {A = ℕ}) is ∙ length-map (filter c keys) f in
    let at_i : get_or serials i d ≡ (get_or (filter c keys) i e).serial = ap (λ (ss : List ℕ). get_or ss i d) is ∙ get_or-map f (filter c keys) i e d (omega (arith, within, long)) in
    let at_j : get_or serials j d ≡ (get_or (filter c keys) j e).serial = ap (λ (ss : List ℕ). get_or ss j d) is ∙ get_or-map f (filter c keys) j e d (omega (arith, within, long)) in
    let up = AllPairs-filter (λ (a b : KeyEntry). a.serial < b.serial) c keys rising i j e lt (omega (arith, within, long)) in
    omega (arith, up, at_i, at_j)

pub no_falling : (serials : List ℕ) → AllPairs (λ first second. first < second) serials → IsNonDecreasingBy (λ n. n) serials
no_falling serials rising i j d le lt = elim (cases_lt i j) [
  | inl less ↦ (let up = rising i j d less lt in omega arith)
  | inr more ↦ (let same : i ≡ j = omega arith in omega (arith, ap (λ (k : ℕ). get_or serials k d) same))
]

pub later_is : (n at : ℕ) (serials : List ℕ) → at ≤ length serials → IsPartitionPoint (λ other. leb other n ≡ true) (λ other. leb other n ≡ false) serials at → drop at serials ≡ filter (λ other. nat_lt n other) serials
later_is n at serials le point =
    let whole : take (length serials) serials ≡ serials = take_all (length serials) serials (omega arith) in
    ap (drop at) (sym whole)
    ∙ passing_part (λ other. nat_lt n other) serials at (length serials) le (omega arith)
    (λ k d lt. le-ltb n _ (leb-true _ n (point.0 k d (omega arith) lt)))
    (λ k d more lt. lt-ltb n _ (leb-false _ n (point.1 k d more lt)))
    (λ k d more lt. absurd (omega arith))

filter-map : (n : ℕ) (keys : List KeyEntry) → filter (λ other. nat_lt n other) (map (λ (key : KeyEntry). key.serial) keys) ≡ map (λ key. key.serial) (filter (λ key. nat_lt n key.serial) keys)
filter-map n [] = refl
filter-map n (key ∷ keys) = step (nat_lt n key.serial) key.serial key _ _ (filter-map n keys)
  where
    step : (b : Bool) (s : ℕ) (key : KeyEntry) (ss : List ℕ) (ks : List KeyEntry) → ss ≡ map (λ (k : KeyEntry). k.serial) ks → cond b (key.serial ∷ ss) ss ≡ map (λ (k : KeyEntry). k.serial) (cond b (key ∷ ks) ks)
    step true s key ss ks e = ap (λ (xs : List ℕ). key.serial ∷ xs) e
    step false s key ss ks e = e

behind_number : (n at : ℕ) (keys : List KeyEntry) → IsRising keys → position (has_number n) keys ≡ Some at → filter (λ key. nat_lt n key.serial) keys ≡ drop (at + 1) keys
behind_number n at keys rising e =
    let d : KeyEntry = record { tuple = []; serial = 0 } in
    let first = position-Some (has_number n) keys at d e in
    let here : (d : KeyEntry) → (get_or keys at d).serial ≡ n = λ d. eqb-true _ _ (position-Some (has_number n) keys at d e).1 in
    let whole : take (length keys) keys ≡ keys = take_all (length keys) keys (omega arith) in
    sym (ap (drop (at + 1)) (sym whole)
    ∙ passing_part (λ key. nat_lt n key.serial) keys (at + 1) (length keys) (omega (arith, first.0)) (omega arith)
    (λ k d lt. le-ltb n _ (elim (cases_lt k at) [
      | inl less ↦ (let up = rising k at d less first.0 in omega (arith, up, here d))
      | inr more ↦ (let same : k ≡ at = omega arith in omega (arith, here d, ap (λ (i : ℕ). (get_or keys i d).serial) same))
    ]))
    (λ k d more lt. lt-ltb n _ (let up = rising at k d (omega arith) lt in omega (arith, up, here d)))
    (λ k d more lt. absurd (omega arith)))

pub found_behind : (wanted : Wanted) (c : KeyEntry → Bool) (n at : ℕ) (keys : List KeyEntry) (serials : List ℕ) → IsRising keys → position (has_number n) keys ≡ Some at → serials ≡ map (λ key. key.serial) (filter c keys) → All (λ key. passes wanted key ≡ true → c key ≡ true) keys → first_of wanted keys (filter (λ other. nat_lt n other) serials) ≡ find (passes wanted) (after_first (has_number n) keys)
found_behind wanted c n at keys serials rising e is asked =
    let more : KeyEntry → Bool = λ key. nat_lt n key.serial in
    let known = All-filter c (λ (key : KeyEntry). numbered keys key.serial ≡ Some key) (filter more keys) (All-filter more (λ (key : KeyEntry). numbered keys key.serial ≡ Some key) keys (all_known keys rising)) in
    ap (λ (ss : List ℕ). first_of wanted keys (filter (λ other. nat_lt n other) ss)) is
    ∙ ap (first_of wanted keys) (filter-map n (filter c keys) ∙ ap (map (λ (key : KeyEntry). key.serial)) (filters_change more c keys))
    ∙ first_known wanted keys (filter c (filter more keys)) known
    ∙ find_left (passes wanted) c (filter more keys) (All-filter more (λ (key : KeyEntry). passes wanted key ≡ true → c key ≡ true) keys asked)
    ∙ ap (find (passes wanted)) (behind_number n at keys rising e ∙ behind_at (has_number n) keys at e)

-- ---- keys that are taken out

pub removed_is : (keys : List KeyEntry) (at : ℕ) (key : KeyEntry) → IsRising keys → at < length keys → key ≡ get_or keys at key → filter (λ old. not (old.serial == key.serial)) keys ≡ remove keys at
removed_is keys at key rising lt here =
    let is : (d : KeyEntry) → get_or keys at d ≡ key = λ d. same_at keys at d key lt ∙ sym here in
    kept_but_one (λ old. not (old.serial == key.serial)) keys at lt
    (λ k d less other. not_from_false _ (ne_eqb _ _ (λ same. let at_d = ap (λ (x : KeyEntry). x.serial) (is d) in elim (cases_lt k at) [
      | inl before ↦ (let up = rising k at d before lt in omega (arith, up, same, at_d))
      | inr behind ↦ (let up = rising at k d (other_place at k behind other) less in omega (arith, up, same, at_d))
    ])))
    (λ d. ap not (eq-eqb _ _ (ap (λ (x : KeyEntry). x.serial) (is d))))
  where
    other_place : (at k : ℕ) → at ≤ k → (k ≡ at → ⊥) → at < k
    other_place at k le ne = elim (cases_lt at k) [ inl lt ↦ lt | inr more ↦ absurd (ne (omega arith)) ]

pub indexed_kept : (p : KeyEntry → Bool) (keys items : List KeyEntry) (protos doms left_protos left_doms : List ℕ) → IsIndexed keys protos doms → IsIndex o.Proto (filter p keys) left_protos → IsIndex o.Dom (filter p keys) left_doms → items ≡ filter p keys → IsIndexed items left_protos left_doms
indexed_kept p keys items protos doms left_protos left_doms x by_proto by_dom is =
    subst (λ (ks : List KeyEntry). IsIndexed ks left_protos left_doms) (sym is) (record {
      rising = AllPairs-filter (λ (a b : KeyEntry). a.serial < b.serial) p keys x.rising;
      valid = All-filter p (λ (key : KeyEntry). key_fault key.tuple ≡ None) keys x.valid;
      by_proto = by_proto;
      by_dom = by_dom;
    })

pub length_removed : {X : Type 0} (xs : List X) (at : ℕ) → at < length xs → length (remove xs at) + 1 ≡ length xs
length_removed [] at lt = absurd (omega arith)
length_removed (x ∷ xs) zero lt = omega arith
length_removed (x ∷ xs) (suc at) lt = let more = length_removed xs at (omega arith) in omega (arith, more)

-- an element that isn't kept may as well be taken out first
pub kept_of_removed : {X : Type 0} (p : X → Bool) (xs : List X) (at : ℕ) (d : X) → at < length xs → p (get_or xs at d) ≡ false → filter p (remove xs at) ≡ filter p xs
kept_of_removed p [] at d lt e = absurd (omega arith)
kept_of_removed p (x ∷ xs) zero d lt e = rw e refl
kept_of_removed p (x ∷ xs) (suc at) d lt e = ap (λ ys. cond (p x) (x ∷ ys) ys) (kept_of_removed p xs at d (omega arith) e)

-- where none matches all are kept
pub unmatched_kept : (p : KeyEntry → Bool) (keys : List KeyEntry) → position p keys ≡ None → filter (λ key. not (p key)) keys ≡ keys
unmatched_kept p keys e = kept_whole (λ key. not (p key)) keys (λ k d lt. not_from_false _ (none_passes p keys e k d lt))
