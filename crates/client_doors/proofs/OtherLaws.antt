-- What an address does isn't counted for another.
use Rattle.std.proofs.Common.{◌≡◌, ◌≢◌, ◌∙◌, ℕ, suc, ◌<◌, ◌≤◌, List, [], ◌∷◌, ◌++◌, length, Bool, true, false, ◌==◌, Option, None, Some, refl, ap, take_all, arith, if◌then◌else◌, eqb-true}
use Rattle.client_doors.specs.declared.address.Address.{Address}
use Rattle.client_doors.specs.declared.wrongs.Guesser.{Guesser}
use Rattle.client_doors.specs.declared.wrongs.TheConstants.{MOST_ADDRESSES}
use Rattle.client_doors.specs.Inside.{count_of, is_same, without}
use Rattle.client_doors.specs.Wrongs.{after_wrong, is_kept, is_recent, remembered, times_of, with_time}
use Rattle.client_doors.specs.Histories.{Seen, came, is_let_in, left, with_inside}
use Rattle.client_doors.proofs.CountLaws.{count_push}

unequal_by : (n m : ℕ) (test : Bool) → (n == m) ≡ test → n ≢ m → test ≡ false
unequal_by n m true e other = absurd (other (eqb-true n m e))
unequal_by n m false e other = refl

pub unequal : (n m : ℕ) → n ≢ m → (n == m) ≡ false
unequal n m other = unequal_by n m (n == m) refl other

-- ---- who comes and goes

came_other : (a b : Address) (seen : Seen) (test : Bool) → a.bits ≢ b.bits
    → count_of (Some a) (if test then with_inside (seen.inside ++ Some b ∷ []) seen else seen).inside ≡ count_of (Some a) seen.inside
came_other a b seen true other =
    let e : (a.bits == b.bits) ≡ false = unequal a.bits b.bits other in
    let p = count_push (Some a) (Some b) seen.inside in
    p ∙ (rw e (omega arith))
came_other a b seen false other = refl

pub coming : (seen : Seen) (a b : Address) → a.bits ≢ b.bits → count_of (Some a) (came (Some b) seen).inside ≡ count_of (Some a) seen.inside
coming seen a b other = came_other a b seen (is_let_in (Some b) seen) other

-- if who goes is of the other address, it isn't of this one
going_by : (s t : Bool) (n m : ℕ) → (s ≡ true → t ≡ false) → m ≡ n → (if s then n else (if t then suc m else m)) ≡ (if t then suc n else n)
going_by true true n m one e = absurd (let f = one refl in cc)
going_by true false n m one e = refl
going_by false true n m one e = ap suc e
going_by false false n m one e = e

one_alone : (a b : Address) → a.bits ≢ b.bits → (c : Option Address) → is_same (Some b) c ≡ true → is_same (Some a) c ≡ false
one_alone a b other None e = refl
one_alone a b other (Some c) e =
    unequal a.bits c.bits (λ (f : a.bits ≡ c.bits). other (let g : b.bits ≡ c.bits = eqb-true b.bits c.bits e in cc))

count_by : (a c : Option Address) (s : Bool) (xs ws : List (Option Address)) → count_of a (if s then xs else c ∷ ws)
    ≡ (if s then count_of a xs else (if is_same a c then suc (count_of a ws) else count_of a ws))
count_by a c true xs ws = refl
count_by a c false xs ws = refl

count_going : (a b : Address) → a.bits ≢ b.bits → (inside : List (Option Address)) → count_of (Some a) (without (Some b) inside) ≡ count_of (Some a) inside
count_going a b other [] = refl
count_going a b other (c ∷ inside) = rw (count_by (Some a) c (is_same (Some b) c) inside (without (Some b) inside))
    (going_by (is_same (Some b) c) (is_same (Some a) c) (count_of (Some a) inside) (count_of (Some a) (without (Some b) inside)) (one_alone a b other c) (count_going a b other inside))

pub going : (seen : Seen) (a b : Address) → a.bits ≢ b.bits → count_of (Some a) (left (Some b) seen).inside ≡ count_of (Some a) seen.inside
going seen a b other = count_going a b other seen.inside

-- ---- wrong answers

-- whether it stays, where it is the one that is found
stays : (a b : Address) → a.bits ≢ b.bits → (now : ℕ) (g : Guesser) → (g.address.bits == a.bits) ≡ true → is_recent now g.times ≡ true → is_kept b now g ≡ true
stays a b other now g f recent =
    let e : g.address.bits ≡ a.bits = eqb-true g.address.bits a.bits f in
    let n : (g.address.bits == b.bits) ≡ false = unequal g.address.bits b.bits (λ (h : g.address.bits ≡ b.bits). other (cc)) in
    rw (n, recent) refl

recent_by : (now : ℕ) (a : Address) (g : Guesser) (rest : List Guesser) → is_recent now (if g.address.bits == a.bits then g.times else times_of a rest) ≡ true
    → (g.address.bits == a.bits) ≡ true → is_recent now g.times ≡ true
recent_by now a g rest recent f = rw f at recent

later_by : (now : ℕ) (a : Address) (g : Guesser) (rest : List Guesser) → is_recent now (if g.address.bits == a.bits then g.times else times_of a rest) ≡ true
    → (g.address.bits == a.bits) ≡ false → is_recent now (times_of a rest) ≡ true
later_by now a g rest recent f = rw f at recent

-- those that are remembered, where the first is another
skip : (a b : Address) (now : ℕ) (g : Guesser) (rest : List Guesser) (test : Bool) → (g.address.bits == a.bits) ≡ false
    → times_of a (remembered b now rest) ≡ times_of a rest
    → times_of a (if test then g ∷ remembered b now rest else remembered b now rest) ≡ (if g.address.bits == a.bits then g.times else times_of a rest)
skip a b now g rest true f e = rw f e
skip a b now g rest false f e = rw f e

-- and where it is found
hit : (a b : Address) (now : ℕ) (g : Guesser) (rest : List Guesser) (test : Bool) → (g.address.bits == a.bits) ≡ true → test ≡ true
    → times_of a (if test then g ∷ remembered b now rest else remembered b now rest) ≡ (if g.address.bits == a.bits then g.times else times_of a rest)
hit a b now g rest true f e = rw f refl
hit a b now g rest false f e = absurd (cc)

remembered_by : (a b : Address) → a.bits ≢ b.bits → (now : ℕ) (g : Guesser) (rest : List Guesser) (found : Bool) → (g.address.bits == a.bits) ≡ found
    → is_recent now (if g.address.bits == a.bits then g.times else times_of a rest) ≡ true
    → (is_recent now (times_of a rest) ≡ true → times_of a (remembered b now rest) ≡ times_of a rest)
    → times_of a (if is_kept b now g then g ∷ remembered b now rest else remembered b now rest)
    ≡ (if g.address.bits == a.bits then g.times else times_of a rest)
remembered_by a b other now g rest true f recent more =
    hit a b now g rest (is_kept b now g) f (stays a b other now g f (recent_by now a g rest recent f))
remembered_by a b other now g rest false f recent more =
    skip a b now g rest (is_kept b now g) f (more (later_by now a g rest recent f))

pub still : (a b : Address) → a.bits ≢ b.bits → (now : ℕ) (guessers : List Guesser) → is_recent now (times_of a guessers) ≡ true
    → times_of a (remembered b now guessers) ≡ times_of a guessers
still a b other now [] recent = refl
still a b other now (g ∷ rest) recent = remembered_by a b other now g rest (g.address.bits == a.bits) refl recent (still a b other now rest)

few_by : (test : Bool) (g : Guesser) (kept : List Guesser) (n : ℕ) → length kept ≤ n → length (if test then g ∷ kept else kept) ≤ suc n
few_by true g kept n e = omega (arith, e)
few_by false g kept n e = omega (arith, e)

pub no_more : (b : Address) (now : ℕ) (guessers : List Guesser) → length (remembered b now guessers) ≤ length guessers
no_more b now [] = omega arith
no_more b now (g ∷ rest) = few_by (is_kept b now g) g (remembered b now rest) (length rest) (no_more b now rest)

pub wrongs_of_others : (guessers : List Guesser) (a b : Address) (now : ℕ) → a.bits ≢ b.bits
    → is_recent now (times_of a guessers) ≡ true → length guessers < MOST_ADDRESSES → times_of a (after_wrong b now guessers) ≡ times_of a guessers
wrongs_of_others guessers a b now other recent few =
    let n : (b.bits == a.bits) ≡ false = unequal b.bits a.bits (λ (h : b.bits ≡ a.bits). other (cc)) in
    let l = no_more b now guessers in
    let whole : after_wrong b now guessers ≡ with_time b now guessers ∷ remembered b now guessers
    = take_all MOST_ADDRESSES (with_time b now guessers ∷ remembered b now guessers) (omega (arith, l, few)) in
    ap (times_of a) whole ∙ rw n (still a b other now guessers recent)
