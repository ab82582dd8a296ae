-- The order of ranks, and lists that are cut or grown by it.
use Rattle.std.proofs.Common.{◌≡◌, ℕ, zero, suc, ◌<◌, ◌≤◌, List, [], ◌∷◌, Bool, true, false, cond, length, get_or, take, drop, Less, Equal, Greater, Ordering, is_eq, is_lt, is_le, is_gt, refl, sym, ap, ◌∙◌, arith}
use Rattle.std.specs.Prelude.{All, AllPairs}
use Rattle.std.specs.List.{filter, insert}
use Rattle.std.specs.Ordering.{ordering_index, ordering_reverse}
use Rattle.std.specs.Cmp.{IsTotalOrder, on_total, then_total, alike_right, tied_itself, upto}
use Rattle.std.specs.Cmp.Lexicographic.{nat_list_cmp_total, options_total}
use Rattle.std.proofs.lemmas.List.Elements.{All-append, All-cons, All-take, All-drop, All-head, All-tail}
use Rattle.std.proofs.lemmas.List.Kept.{AllPairs-cons}
use Rattle.key_ring.specs.Ranks.{RankOf, rank_cmp}

pub rank_total : IsTotalOrder rank_cmp
rank_total = then_total (on_total (λ (r : RankOf). r.proto) (options_total nat_list_cmp_total)) (on_total (λ (r : RankOf). r.dom) (options_total nat_list_cmp_total))

-- ---- answers of a comparison

pub index_of_lt : (o : Ordering) → is_lt o ≡ true → ordering_index o ≡ 0
index_of_lt Less e = refl
index_of_lt Equal e = absurd cc
index_of_lt Greater e = absurd cc

pub lt_of_index : (o : Ordering) → ordering_index o ≤ 0 → is_lt o ≡ true
lt_of_index Less e = refl
lt_of_index Equal e = absurd (omega arith)
lt_of_index Greater e = absurd (omega arith)

pub index_of_le : (o : Ordering) → is_le o ≡ true → ordering_index o ≤ 1
index_of_le Less e = omega arith
index_of_le Equal e = omega arith
index_of_le Greater e = absurd cc

pub le_of_index : (o : Ordering) → ordering_index o ≤ 1 → is_le o ≡ true
le_of_index Less e = refl
le_of_index Equal e = refl
le_of_index Greater e = absurd (omega arith)

pub not_eq_of_lt : (o : Ordering) → is_lt o ≡ true → is_eq o ≡ false
not_eq_of_lt Less e = refl
not_eq_of_lt Equal e = absurd cc
not_eq_of_lt Greater e = absurd cc

pub eq_between : (o : Ordering) → is_lt o ≡ false → is_le o ≡ true → is_eq o ≡ true
eq_between Less e f = absurd cc
eq_between Equal e f = refl
eq_between Greater e f = absurd cc

pub not_eq_of_gt : (o : Ordering) → is_le o ≡ false → is_eq o ≡ false
not_eq_of_gt Less e = absurd cc
not_eq_of_gt Equal e = absurd cc
not_eq_of_gt Greater e = refl

pub gt_of_not_le : (o : Ordering) → is_le o ≡ false → o ≡ Greater
gt_of_not_le Less e = absurd cc
gt_of_not_le Equal e = absurd cc
gt_of_not_le Greater e = refl

pub not_lt_and_gt : (o : Ordering) → is_lt o ≡ true → is_le o ≡ false → ⊥
not_lt_and_gt Less e f = cc
not_lt_and_gt Equal e f = cc
not_lt_and_gt Greater e f = cc

is_equal : (o : Ordering) → is_eq o ≡ true → o ≡ Equal
is_equal Less e = absurd cc
is_equal Equal e = refl
is_equal Greater e = absurd cc

le_not_gt : (o : Ordering) → is_le o ≡ true → is_gt o ≡ false
le_not_gt Less e = refl
le_not_gt Equal e = refl
le_not_gt Greater e = absurd cc

-- ---- what is lower stays lower beside a third

lower_by : (x y : Ordering) → (is_gt y ≡ false → is_gt x ≡ false) → (y ≡ Less → x ≡ Less) → ordering_index x ≤ ordering_index y
lower_by x Less up less = rw (less refl) (omega arith)
lower_by Less Equal up less = omega arith
lower_by Equal Equal up less = omega arith
lower_by Greater Equal up less = let e : is_gt Greater ≡ false = up refl in absurd cc
lower_by Less Greater up less = omega arith
lower_by Equal Greater up less = omega arith
lower_by Greater Greater up less = omega arith

less_by : (a b r : RankOf) (o : Ordering) → rank_cmp a b ≡ o → is_le o ≡ true → rank_cmp b r ≡ Less → rank_cmp a r ≡ Less
less_by a b r Less e h less = rank_total.trans a b r e less
less_by a b r Equal e h less = rank_total.congr a b r e ∙ less
less_by a b r Greater e h less = absurd cc

pub lower_beside : (a b r : RankOf) → is_le (rank_cmp a b) ≡ true → ordering_index (rank_cmp a r) ≤ ordering_index (rank_cmp b r)
lower_beside a b r h = lower_by (rank_cmp a r) (rank_cmp b r) (λ up. upto rank_total a b r (le_not_gt _ h) up) (less_by a b r (rank_cmp a b) refl h)

reversed_le : (o : Ordering) → o ≡ Greater → is_le (ordering_reverse o) ≡ true
reversed_le o e = rw e refl

pub higher_beside : (a b r : RankOf) → is_le (rank_cmp b a) ≡ false → ordering_index (rank_cmp a r) ≤ ordering_index (rank_cmp b r)
higher_beside a b r h = lower_beside a b r (ap is_le (rank_total.antisymm a b) ∙ reversed_le (rank_cmp b a) (gt_of_not_le _ h))

-- what is beyond one of a rank isn't of the rank
pub beyond_rank : (a b r : RankOf) → is_le (rank_cmp b a) ≡ false → is_eq (rank_cmp a r) ≡ true → is_eq (rank_cmp b r) ≡ false
beyond_rank a b r h e = ap is_eq (sym (alike_right rank_total a r b (is_equal _ e))) ∙ not_eq_of_gt _ h

pub own_rank : (r : RankOf) → is_eq (rank_cmp r r) ≡ true
own_rank r = ap is_eq (tied_itself rank_total r)

-- ---- lists

-- what passes stands between two places
pub passing_part : {X : Type 0} (p : X → Bool) (xs : List X) (i j : ℕ) → i ≤ j → j ≤ length xs → ((k : ℕ) (d : X) → k < i → p (get_or xs k d) ≡ false) → ((k : ℕ) (d : X) → i ≤ k → k < j → p (get_or xs k d) ≡ true) → ((k : ℕ) (d : X) → j ≤ k → k < length xs → p (get_or xs k d) ≡ false) → drop i (take j xs) ≡ filter p xs
passing_part p [] zero zero le lt low at high = refl
passing_part p [] zero (suc j) le lt low at high = absurd (omega arith)
passing_part p [] (suc i) j le lt low at high = absurd (omega arith)
passing_part p (x ∷ xs) zero zero le lt low at high =
    let first : p x ≡ false = high 0 x (omega arith) (omega arith) in
    rw first (passing_part p xs zero zero le (omega arith) (λ k d l. absurd (omega arith)) (λ k d l m. absurd (omega arith)) (λ k d l m. high (suc k) d (omega arith) (omega arith)))
passing_part p (x ∷ xs) zero (suc j) le lt low at high =
    let first : p x ≡ true = at 0 x (omega arith) (omega arith) in
    rw first (ap (λ ys. x ∷ ys) (passing_part p xs zero j (omega arith) (omega arith) (λ k d l. absurd (omega arith)) (λ k d l m. at (suc k) d (omega arith) (omega arith)) (λ k d l m. high (suc k) d (omega arith) (omega arith))))
passing_part p (x ∷ xs) (suc i) zero le lt low at high = absurd (omega arith)
passing_part p (x ∷ xs) (suc i) (suc j) le lt low at high =
    let first : p x ≡ false = low 0 x (omega arith) in
    rw first (passing_part p xs i j (omega arith) (omega arith) (λ k d l. low (suc k) d (omega arith)) (λ k d l m. at (suc k) d (omega arith) (omega arith)) (λ k d l m. high (suc k) d (omega arith) (omega arith)))

-- two tests, in either order
pub filters_change : {X : Type 0} (p q : X → Bool) (xs : List X) → filter p (filter q xs) ≡ filter q (filter p xs)
filters_change p q [] = refl
filters_change p q (x ∷ xs) = change p q x (filter q xs) (filter p xs) (p x) (q x) refl refl (filters_change p q xs)
  where
    change : {X : Type 0} (p q : X → Bool) (x : X) (ys zs : List X) (b c : Bool) → p x ≡ b → q x ≡ c → filter p ys ≡ filter q zs → filter p (cond c (x ∷ ys) ys) ≡ filter q (cond b (x ∷ zs) zs)
    change p q x ys zs true true pb qc e = rw (pb, qc) (ap (λ xs. x ∷ xs) e)
    change p q x ys zs true false pb qc e = rw qc e
    change p q x ys zs false true pb qc e = rw pb e
    change p q x ys zs false false pb qc e = e

pub All-insert : {X : Type 0} (P : X → Type 0) (xs : List X) (at : ℕ) (y : X) → All P xs → P y → All P (insert xs at y)
All-insert P xs at y all here = All-append P (take at xs) (y ∷ drop at xs) (All-take P at xs all) (All-cons P y (drop at xs) here (All-drop P at xs all))

pub AllPairs-insert : {X : Type 0} (R : X → X → Type 0) (xs : List X) (at : ℕ) (y : X) → AllPairs R xs → All (λ x. R x y) xs → All (λ x. R y x) xs → AllPairs R (insert xs at y)
AllPairs-insert R [] zero y pairs before behind = AllPairs-cons R y [] behind pairs
AllPairs-insert R [] (suc at) y pairs before behind = AllPairs-cons R y [] behind pairs
AllPairs-insert R (x ∷ xs) zero y pairs before behind = AllPairs-cons R y (x ∷ xs) behind pairs
AllPairs-insert R (x ∷ xs) (suc at) y pairs before behind =
    let rest : AllPairs R xs = λ i j d lt within. pairs (suc i) (suc j) d (omega arith) (omega arith) in
    let first : All (R x) xs = λ k d lt. pairs zero (suc k) d (omega arith) (omega arith) in
    AllPairs-cons R x (insert xs at y) (All-insert (R x) xs at y first (All-head (λ z. R z y) x xs before)) (AllPairs-insert R xs at y rest (All-tail (λ z. R z y) x xs before) (All-tail (R y) x xs behind))

-- where none passes nothing is left
pub none_left : {X : Type 0} (p : X → Bool) (xs : List X) → ((k : ℕ) (d : X) → k < length xs → p (get_or xs k d) ≡ false) → filter p xs ≡ []
none_left p [] h = refl
none_left p (x ∷ xs) h =
    let first : p x ≡ false = h 0 x (omega arith) in
    rw first (none_left p xs (λ k d lt. h (suc k) d (omega arith)))
