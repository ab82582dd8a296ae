-- How many are inside, by what came and went.
use Rattle.std.proofs.Common.{◌≡◌, ℕ, suc, ◌+◌, ◌<◌, ◌≤◌, List, [], ◌∷◌, ◌++◌, length, Bool, true, false, ◌&&◌, ◌==◌, nat_lt, Option, None, Some, refl, ap, arith, if◌then◌else◌, ltb-true, ltb-false, eqb-true}
use Rattle.client_doors.specs.declared.address.Address.{Address}
use Rattle.client_doors.specs.declared.limits.Limits.{Limits}
use Rattle.client_doors.specs.Inside.{count_of, has_own_room, is_same, without}
use Rattle.client_doors.specs.declared.wrongs.TheConstants.{MOST_ADDRESSES}
use Rattle.client_doors.specs.Wrongs.{remembered, with_time}
use Rattle.client_doors.specs.Histories.{Entry, Seen, is_let_in, left, seen_of, with_inside, wronged}
use Rattle.client_doors.specs.Histories.Entry.{Came, Left, Wrong}
use lib.ListN.{length-take}

pub both : (x y : Bool) → x && y ≡ true → (x ≡ true) × (y ≡ true)
both true y e = (refl, e)
both false y e = absurd (cc)

-- ---- one more behind them

abbrev pub one : Bool → ℕ
one same = if same then 1 else 0

one_last : (same : Bool) → (if same then suc 0 else 0) ≡ 0 + one same
one_last true = refl
one_last false = refl

one_further : (same : Bool) (n m k : ℕ) → n ≡ m + k → (if same then suc n else n) ≡ (if same then suc m else m) + k
one_further true n m k e = omega (arith, e)
one_further false n m k e = e

pub count_push : (a b : Option Address) (inside : List (Option Address)) → count_of a (inside ++ b ∷ []) ≡ count_of a inside + one (is_same a b)
count_push a b [] = one_last (is_same a b)
count_push a b (c ∷ inside) = one_further (is_same a c) (count_of a (inside ++ b ∷ [])) (count_of a inside) (one (is_same a b)) (count_push a b inside)

length_push : {X : Type 0} (xs : List X) (x : X) → length (xs ++ x ∷ []) ≡ length xs + 1
length_push [] x = refl
length_push (y ∷ xs) x = omega (arith, length_push xs x)

-- ---- the same address

counted : (s t : Bool) (n m : ℕ) → s ≡ t → n ≡ m → (if s then suc n else n) ≡ (if t then suc m else m)
counted s t n m e f = cc

same_test : (a b : Address) → a.bits ≡ b.bits → (c : Option Address) → is_same (Some a) c ≡ is_same (Some b) c
same_test a b e None = refl
same_test a b e (Some c) = ap (λ (n : ℕ). n == c.bits) e

pub same_count : (a b : Address) → a.bits ≡ b.bits → (inside : List (Option Address)) → count_of (Some a) inside ≡ count_of (Some b) inside
same_count a b e [] = refl
same_count a b e (c ∷ inside) = counted (is_same (Some a) c) (is_same (Some b) c) (count_of (Some a) inside) (count_of (Some b) inside) (same_test a b e c) (same_count a b e inside)

-- ---- one who came

room_for : (a b : Address) (inside : List (Option Address)) (most : ℕ) (same : Bool) → (a.bits == b.bits) ≡ same
    → count_of (Some b) inside < most → count_of (Some a) inside ≤ most → count_of (Some a) inside + one same ≤ most
room_for a b inside most true e lt le =
    let n : count_of (Some a) inside ≡ count_of (Some b) inside = same_count a b (eqb-true a.bits b.bits e) inside in
    omega (arith, n, lt)
room_for a b inside most false e lt le = omega (arith, le)

few_then : (limits : Limits) (inside : List (Option Address)) (b : Option Address) → has_own_room limits inside b ≡ true
    → (a : Address) → count_of (Some a) inside ≤ limits.per_address → count_of (Some a) inside + one (is_same (Some a) b) ≤ limits.per_address
few_then limits inside None room a le = omega (arith, le)
few_then limits inside (Some b) room a le = room_for a b inside limits.per_address (a.bits == b.bits) refl (ltb-true (count_of (Some b) inside) limits.per_address room) le

-- What holds of who is inside.
pub record Fits (limits : Limits) (seen : Seen) : Type 0 where
  pub same : seen.limits ≡ limits
  pub few : length seen.inside ≤ seen.limits.clients
  pub few_of : (a : Address) → count_of (Some a) seen.inside ≤ seen.limits.per_address

came_by : (limits : Limits) (b : Option Address) (seen : Seen) (test : Bool) → is_let_in b seen ≡ test → Fits limits seen
    → Fits limits (if test then with_inside (seen.inside ++ b ∷ []) seen else seen)
came_by limits b seen true e fits =
    let rooms = both (nat_lt (length seen.inside) seen.limits.clients) (has_own_room seen.limits seen.inside b) e in
    let lt : length seen.inside < seen.limits.clients = ltb-true (length seen.inside) seen.limits.clients rooms.0 in
    record {
      same = fits.same;
      few = rw (length_push seen.inside b) (omega (arith, lt));
      few_of = λ (a : Address). rw (count_push (Some a) b seen.inside) (few_then seen.limits seen.inside b rooms.1 a (fits.few_of a));
    }
came_by limits b seen false e fits = fits

-- ---- one who went

left_few : (s t : Bool) (n m : ℕ) → m ≤ n → (if s then n else (if t then suc m else m)) ≤ (if t then suc n else n)
left_few true true n m e = omega arith
left_few true false n m e = omega arith
left_few false true n m e = omega (arith, e)
left_few false false n m e = e

count_by : (a c : Option Address) (s : Bool) (xs ws : List (Option Address)) → count_of a (if s then xs else c ∷ ws)
    ≡ (if s then count_of a xs else (if is_same a c then suc (count_of a ws) else count_of a ws))
count_by a c true xs ws = refl
count_by a c false xs ws = refl

pub count_without : (a b : Option Address) (inside : List (Option Address)) → count_of a (without b inside) ≤ count_of a inside
count_without a b [] = omega arith
count_without a b (c ∷ inside) = rw (count_by a c (is_same b c) inside (without b inside))
    (left_few (is_same b c) (is_same a c) (count_of a inside) (count_of a (without b inside)) (count_without a b inside))

fewer : (s : Bool) (c : Option Address) (xs ws : List (Option Address)) → length ws ≤ length xs → length (if s then xs else c ∷ ws) ≤ suc (length xs)
fewer true c xs ws e = omega arith
fewer false c xs ws e = omega (arith, e)

pub length_without : (b : Option Address) (inside : List (Option Address)) → length (without b inside) ≤ length inside
length_without b [] = omega arith
length_without b (c ∷ inside) = fewer (is_same b c) c inside (without b inside) (length_without b inside)

left_fits : (limits : Limits) (b : Option Address) (seen : Seen) → Fits limits seen → Fits limits (left b seen)
left_fits limits b seen fits = record {
  same = fits.same;
  few = (let l = length_without b seen.inside in let f = fits.few in omega (arith, l, f));
  few_of = λ (a : Address). (let l = count_without (Some a) b seen.inside in let f = fits.few_of a in omega (arith, l, f));
}

wronged_fits : (limits : Limits) (b : Option Address) (now : ℕ) (seen : Seen) → Fits limits seen → Fits limits (wronged b now seen)
wronged_fits limits None now seen fits = fits
wronged_fits limits (Some b) now seen fits = record { same = fits.same; few = fits.few; few_of = fits.few_of }

pub always_fits : (limits : Limits) (history : List Entry) → Fits limits (seen_of limits history)
always_fits limits [] = record { same = refl; few = omega arith; few_of = λ (a : Address). omega arith }
always_fits limits (Came b ∷ history) = came_by limits b (seen_of limits history) (is_let_in b (seen_of limits history)) refl (always_fits limits history)
always_fits limits (Left b ∷ history) = left_fits limits b (seen_of limits history) (always_fits limits history)
always_fits limits (Wrong b now ∷ history) = wronged_fits limits b now (seen_of limits history) (always_fits limits history)

pub few_inside : (limits : Limits) (history : List Entry) → length (seen_of limits history).inside ≤ limits.clients
few_inside limits history = let fits = always_fits limits history in rw fits.same at fits.few

pub few_of_one : (limits : Limits) (history : List Entry) (a : Address) → count_of (Some a) (seen_of limits history).inside ≤ limits.per_address
few_of_one limits history a = let fits = always_fits limits history in rw fits.same at fits.few_of a

-- ---- who is let in

ltb_by : (m n : ℕ) (test : Bool) → nat_lt m n ≡ test → m < n → test ≡ true
ltb_by m n true e lt = refl
ltb_by m n false e lt = absurd (omega (arith, ltb-false m n e, lt))

ltb_makes : (m n : ℕ) → m < n → nat_lt m n ≡ true
ltb_makes m n lt = ltb_by m n (nat_lt m n) refl lt

let_in_by : (seen : Seen) (a : Option Address) → length seen.inside < seen.limits.clients → has_own_room seen.limits seen.inside a ≡ true → is_let_in a seen ≡ true
let_in_by seen a few own = rw (ltb_makes (length seen.inside) seen.limits.clients few, own) refl

pub let_in_with_address : (limits : Limits) (history : List Entry) (a : Address) → length (seen_of limits history).inside < limits.clients
    → count_of (Some a) (seen_of limits history).inside < limits.per_address → is_let_in (Some a) (seen_of limits history) ≡ true
let_in_with_address limits history a few own =
    let e = (always_fits limits history).same in
    let_in_by (seen_of limits history) (Some a) (rw e few) (ltb_makes (count_of (Some a) (seen_of limits history).inside) (seen_of limits history).limits.per_address (rw e own))

pub let_in_without : (limits : Limits) (history : List Entry) → length (seen_of limits history).inside < limits.clients → is_let_in None (seen_of limits history) ≡ true
let_in_without limits history few =
    let e = (always_fits limits history).same in
    let_in_by (seen_of limits history) None (rw e few) refl

-- ---- who is remembered

pub came_leaves : (b : Option Address) (seen : Seen) (test : Bool) → (if test then with_inside (seen.inside ++ b ∷ []) seen else seen).guessers ≡ seen.guessers
came_leaves b seen true = refl
came_leaves b seen false = refl

few_remembered_of : (now : ℕ) (a : Option Address) (seen : Seen) → length seen.guessers ≤ MOST_ADDRESSES → length (wronged a now seen).guessers ≤ MOST_ADDRESSES
few_remembered_of now None seen few = few
few_remembered_of now (Some a) seen few =
    let l = length-take MOST_ADDRESSES (with_time a now seen.guessers ∷ remembered a now seen.guessers) in
    omega (arith, l)

pub few_remembered : (limits : Limits) (history : List Entry) → length (seen_of limits history).guessers ≤ MOST_ADDRESSES
few_remembered limits [] = omega arith
few_remembered limits (Came a ∷ history) = rw (came_leaves a (seen_of limits history) (is_let_in a (seen_of limits history))) (few_remembered limits history)
few_remembered limits (Left a ∷ history) = few_remembered limits history
few_remembered limits (Wrong a now ∷ history) = few_remembered_of now a (seen_of limits history) (few_remembered limits history)
