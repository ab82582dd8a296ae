-- How long an address waits, by all its wrong answers.
use Rattle.std.proofs.Common.{◌≡◌, ◌≢◌, ◌∙◌, ℕ, suc, ◌-◌, ◌<◌, ◌≤◌, List, [], ◌∷◌, ◌++◌, length, Bool, true, false, not, ◌&&◌, ◌==◌, take, nat_lt, slice_get, None, Some, refl, sym, subst, ap, arith, take_all, if◌then◌else◌, eqb-true, ltb-false, zero}
use Rattle.std.proofs.lemmas.Bool.{eqb-false}
use Rattle.std.proofs.lemmas.List.{take-take}
use Rattle.client_doors.specs.declared.address.Address.{Address}
use Rattle.client_doors.specs.declared.limits.Limits.{Limits}
use Rattle.client_doors.specs.declared.wrongs.Guesser.{Guesser}
use Rattle.client_doors.specs.declared.wrongs.TheConstants.{MINUTE, MOST_ADDRESSES, MOST_TIMES}
use Rattle.client_doors.specs.Wrongs.{after_wrong, is_kept, is_recent, remembered, rest_behind, rest_of, times_of, wait_of, with_time}
use Rattle.client_doors.specs.Histories.{Entry, is_let_in, seen_of}
use Rattle.client_doors.specs.Histories.Entry.{Came, Left, Wrong}
use Rattle.client_doors.specs.Minutes.{IsTimely, last_time, times_with, wrongs_of}
use Rattle.client_doors.proofs.CountLaws.{came_leaves}
use Rattle.client_doors.proofs.OtherLaws.{no_more, still}

-- ---- times

-- each is over a minute old
abbrev Old : ℕ → List ℕ → Type 0
Old now [] = Unit {0}
Old now (t ∷ times) = (MINUTE ≤ now - t) × Old now times

-- none is later
abbrev Below : ℕ → List ℕ → Type 0
Below now [] = Unit {0}
Below now (t ∷ times) = (t ≤ now) × Below now times

-- none is later than the first
abbrev Falls : List ℕ → Type 0
Falls [] = Unit {0}
Falls (t ∷ times) = Below t times

below_later : (m n : ℕ) → m ≤ n → (times : List ℕ) → Below m times → Below n times
below_later m n le [] b = tt
below_later m n le (t ∷ times) b = ((let f = b.0 in omega (arith, le, f)), below_later m n le times b.1)

old_later : (m n : ℕ) → m ≤ n → (times : List ℕ) → Old m times → Old n times
old_later m n le [] o = tt
old_later m n le (t ∷ times) o = ((let f = o.0 in omega (arith, le, f)), old_later m n le times o.1)

old_below : (now t : ℕ) → MINUTE ≤ now - t → (times : List ℕ) → Below t times → Old now times
old_below now t le [] b = tt
old_below now t le (s ∷ times) b = ((let f = b.0 in omega (arith, le, f)), old_below now t le times b.1)

old_joined : (now : ℕ) (xs ys : List ℕ) → Old now xs → Old now ys → Old now (xs ++ ys)
old_joined now [] ys o p = p
old_joined now (x ∷ xs) ys o p = (o.0, old_joined now xs ys o.1 p)

-- of old ones nothing is left
none_left : (n : ℕ) (times : List ℕ) (now : ℕ) → Old now times → rest_behind (slice_get times n) now ≡ 0
none_left n [] now o = refl
none_left zero (t ∷ times) now o = (let f = o.0 in omega (arith, f))
none_left (suc n) (t ∷ times) now o = none_left n times now o.1

same_rest : (n : ℕ) (newer older : List ℕ) (now : ℕ) → Old now older
    → rest_behind (slice_get (take (suc n) newer) n) now ≡ rest_behind (slice_get (newer ++ older) n) now
same_rest n [] older now o = sym (none_left n older now o)
same_rest zero (t ∷ newer) older now o = refl
same_rest (suc n) (t ∷ newer) older now o = same_rest n newer older now o

-- ---- an address stands once among those that are remembered

abbrev has : Address → List Guesser → Bool
has a [] = false
has a (g ∷ guessers) = if g.address.bits == a.bits then true else has a guessers

abbrev Once : List Guesser → Type 0
Once [] = Unit {0}
Once (g ∷ guessers) = (has g.address guessers ≡ false) × Once guessers

cut_has : (found stays : Bool) (m k : Bool) → (m ≡ false → k ≡ false) → (if found then true else m) ≡ false
    → (if stays then (if found then true else k) else k) ≡ false
cut_has true stays m k f e = absurd (cc)
cut_has false true m k f e = f e
cut_has false false m k f e = f e

has_by : (a g_other : Address) (g : Guesser) (kept : List Guesser) (stays : Bool)
    → has a (if stays then g ∷ kept else kept) ≡ (if stays then (if g.address.bits == a.bits then true else has a kept) else has a kept)
has_by a g_other g kept true = refl
has_by a g_other g kept false = refl

still_not : (a b : Address) (now : ℕ) (guessers : List Guesser) → has a guessers ≡ false → has a (remembered b now guessers) ≡ false
still_not a b now [] e = refl
still_not a b now (g ∷ rest) e = has_by a a g (remembered b now rest) (is_kept b now g)
    ∙ cut_has (g.address.bits == a.bits) (is_kept b now g) (has a rest) (has a (remembered b now rest)) (still_not a b now rest) e

once_by : (b : Address) (now : ℕ) (g : Guesser) (rest : List Guesser) (stays : Bool) → has g.address rest ≡ false → Once (remembered b now rest)
    → Once (if stays then g ∷ remembered b now rest else remembered b now rest)
once_by b now g rest true e o = (still_not g.address b now rest e, o)
once_by b now g rest false e o = o

still_once : (b : Address) (now : ℕ) (guessers : List Guesser) → Once guessers → Once (remembered b now guessers)
still_once b now [] o = tt
still_once b now (g ∷ rest) o = once_by b now g rest (is_kept b now g) o.0 (still_once b now rest o.1)

-- the address that is wrong isn't among the others
dropped : (found recent m : Bool) → m ≡ false → (if not found && recent then (if found then true else m) else m) ≡ false
dropped true recent m e = e
dropped false true m e = e
dropped false false m e = e

not_others : (b : Address) (now : ℕ) (guessers : List Guesser) → has b (remembered b now guessers) ≡ false
not_others b now [] = refl
not_others b now (g ∷ rest) = has_by b b g (remembered b now rest) (is_kept b now g)
    ∙ dropped (g.address.bits == b.bits) (is_recent now g.times) (has b (remembered b now rest)) (not_others b now rest)

-- who isn't there has no times
no_times_by : (found : Bool) (m : Bool) (times more : List ℕ) → (m ≡ false → more ≡ []) → (if found then true else m) ≡ false → (if found then times else more) ≡ []
no_times_by true m times more f e = absurd (cc)
no_times_by false m times more f e = f e

no_times : (a : Address) (guessers : List Guesser) → has a guessers ≡ false → times_of a guessers ≡ []
no_times a [] e = refl
no_times a (g ∷ rest) e = no_times_by (g.address.bits == a.bits) (has a rest) g.times (times_of a rest) (no_times a rest) e

-- who isn't recent is forgotten
same_has : (a b : Address) → a.bits ≡ b.bits → (guessers : List Guesser) → has a guessers ≡ has b guessers
same_has a b e [] = refl
same_has a b e (g ∷ rest) = ap (λ (n : ℕ). if g.address.bits == n then true else has a rest) e ∙ ap (λ (m : Bool). if g.address.bits == b.bits then true else m) (same_has a b e rest)

times_by : (a : Address) (g : Guesser) (kept : List Guesser) (stays : Bool)
    → times_of a (if stays then g ∷ kept else kept) ≡ (if stays then (if g.address.bits == a.bits then g.times else times_of a kept) else times_of a kept)
times_by a g kept true = refl
times_by a g kept false = refl

gone_found : (a b : Address) (now : ℕ) (g : Guesser) (rest : List Guesser) → g.address.bits ≡ a.bits → is_recent now g.times ≡ false
    → has g.address rest ≡ false → times_of a (if is_kept b now g then g ∷ remembered b now rest else remembered b now rest) ≡ []
gone_found a b now g rest e old o =
    let none : has a (remembered b now rest) ≡ false = still_not a b now rest (same_has a g.address (sym e) rest ∙ o) in
    stays_not (g.address.bits == b.bits) (is_recent now g.times) old a g (remembered b now rest) (no_times a (remembered b now rest) none)
  where
    stays_not : (same recent : Bool) → recent ≡ false → (a : Address) (g : Guesser) (kept : List Guesser) → times_of a kept ≡ []
        → times_of a (if not same && recent then g ∷ kept else kept) ≡ []
    stays_not true recent e a g kept t = t
    stays_not false true e a g kept t = absurd (cc)
    stays_not false false e a g kept t = t

gone_other : (a : Address) (g : Guesser) (kept : List Guesser) (stays : Bool) → (g.address.bits == a.bits) ≡ false → times_of a kept ≡ []
    → times_of a (if stays then g ∷ kept else kept) ≡ []
gone_other a g kept true f t = rw f t
gone_other a g kept false f t = t

gone_by : (a b : Address) (now : ℕ) (g : Guesser) (rest : List Guesser) (found : Bool) → (g.address.bits == a.bits) ≡ found
    → is_recent now (if found then g.times else times_of a rest) ≡ false → has g.address rest ≡ false
    → (is_recent now (times_of a rest) ≡ false → times_of a (remembered b now rest) ≡ [])
    → times_of a (if is_kept b now g then g ∷ remembered b now rest else remembered b now rest) ≡ []
gone_by a b now g rest true f old o more = gone_found a b now g rest (eqb-true g.address.bits a.bits f) old o
gone_by a b now g rest false f old o more = gone_other a g (remembered b now rest) (is_kept b now g) f (more old)

gone : (a b : Address) (now : ℕ) (guessers : List Guesser) → Once guessers → is_recent now (times_of a guessers) ≡ false → times_of a (remembered b now guessers) ≡ []
gone a b now [] o old = refl
gone a b now (g ∷ rest) o old = gone_by a b now g rest (g.address.bits == a.bits) refl old o.0 (gone a b now rest o.1)

-- ---- what is remembered of an address

record Remembers (all kept : List ℕ) (latest : ℕ) : Type 0 where
  newer : List ℕ
  older : List ℕ
  parts : all ≡ newer ++ older
  is_kept : kept ≡ take MOST_TIMES newer
  old : Old latest older
  under : Below latest newer
  falls : Falls newer

-- a wrong answer of its own
own : (all kept : List ℕ) (latest now : ℕ) → latest ≤ now → Remembers all kept latest → Remembers (now ∷ all) (take MOST_TIMES (now ∷ kept)) now
own all kept latest now le r = record {
  newer = now ∷ r.newer;
  older = r.older;
  parts = ap (λ (times : List ℕ). now ∷ times) r.parts;
  is_kept = ap (λ (times : List ℕ). take MOST_TIMES (now ∷ times)) r.is_kept ∙ ap (λ (times : List ℕ). now ∷ times) (take-take 19 MOST_TIMES r.newer (omega arith));
  old = old_later latest now le r.older r.old;
  under = (omega arith, below_later latest now le r.newer r.under);
  falls = below_later latest now le r.newer r.under;
}

-- nothing of it, but time goes by
waits : (all kept : List ℕ) (latest now : ℕ) → latest ≤ now → Remembers all kept latest → Remembers all kept now
waits all kept latest now le r = record {
  newer = r.newer;
  older = r.older;
  parts = r.parts;
  is_kept = r.is_kept;
  old = old_later latest now le r.older r.old;
  under = below_later latest now le r.newer r.under;
  falls = r.falls;
}

-- it is forgotten
first_old : (newer kept : List ℕ) (now : ℕ) → kept ≡ take MOST_TIMES newer → is_recent now kept ≡ false → Falls newer → Old now newer
first_old [] kept now e old f = tt
first_old (t ∷ newer) kept now e old f =
    let late : nat_lt (now - t) MINUTE ≡ false = rw e at old in
    let le : MINUTE ≤ now - t = ltb-false (now - t) MINUTE late in
    (le, old_below now t le newer f)

forgets : (all kept : List ℕ) (latest now : ℕ) → latest ≤ now → is_recent now kept ≡ false → Remembers all kept latest → Remembers all [] now
forgets all kept latest now le old r = record {
  newer = [];
  older = r.newer ++ r.older;
  parts = r.parts;
  is_kept = refl;
  old = old_joined now r.newer r.older (first_old r.newer kept now r.is_kept old r.falls) (old_later latest now le r.older r.old);
  under = tt;
  falls = tt;
}

-- ---- one wrong answer

same_times : (a b : Address) → b.bits ≡ a.bits → (guessers : List Guesser) → times_of b guessers ≡ times_of a guessers
same_times a b e [] = refl
same_times a b e (g ∷ rest) = ap (λ (n : ℕ). if g.address.bits == n then g.times else times_of b rest) e ∙ ap (λ (times : List ℕ). if g.address.bits == a.bits then g.times else times) (same_times a b e rest)

other_by : (a b : Address) (all : List ℕ) (latest now : ℕ) (guessers : List Guesser) (recent : Bool) → a.bits ≢ b.bits → latest ≤ now → Once guessers
    → is_recent now (times_of a guessers) ≡ recent → Remembers all (times_of a guessers) latest → Remembers all (times_of a (remembered b now guessers)) now
other_by a b all latest now guessers true other le once e r = rw (still a b other now guessers e) (waits all (times_of a guessers) latest now le r)
other_by a b all latest now guessers false other le once e r = rw (gone a b now guessers once e) (forgets all (times_of a guessers) latest now le e r)

whole : (b : Address) (now : ℕ) (guessers : List Guesser) → length guessers < MOST_ADDRESSES → after_wrong b now guessers ≡ with_time b now guessers ∷ remembered b now guessers
whole b now guessers few = let l = no_more b now guessers in take_all MOST_ADDRESSES (with_time b now guessers ∷ remembered b now guessers) (omega (arith, l, few))

one_by : (a b : Address) (all : List ℕ) (latest now : ℕ) (guessers : List Guesser) (found : Bool) → (b.bits == a.bits) ≡ found → latest ≤ now → Once guessers
    → Remembers all (times_of a guessers) latest
    → Remembers (if found then now ∷ all else all) (if found then take MOST_TIMES (now ∷ times_of b guessers) else times_of a (remembered b now guessers)) now
one_by a b all latest now guessers true f le once r =
    rw (same_times a b (eqb-true b.bits a.bits f) guessers) (own all (times_of a guessers) latest now le r)
one_by a b all latest now guessers false f le once r =
    other_by a b all latest now guessers (is_recent now (times_of a guessers)) (λ (h : a.bits ≡ b.bits). absurd (not_equal b.bits a.bits f (sym h))) le once refl r
  where
    not_equal : (m n : ℕ) → (m == n) ≡ false → m ≡ n → ⊥
    not_equal m n e h = eqb-false m n e h

-- ---- all of them

record Knows (limits : Limits) (history : List Entry) : Type 0 where
  once : Once (seen_of limits history).guessers
  times : (a : Address) → Remembers (wrongs_of a history) (times_of a (seen_of limits history).guessers) (last_time history)

known : (limits : Limits) (history : List Entry) → IsTimely limits history → Knows limits history
known limits [] timely = record {
  once = tt;
  times = λ (a : Address). record { newer = []; older = []; parts = refl; is_kept = refl; old = tt; under = tt; falls = tt };
}
known limits (Came b ∷ history) timely =
    let before = known limits history timely in
    let e = came_leaves b (seen_of limits history) (is_let_in b (seen_of limits history)) in
    record { once = rw e before.once; times = λ (a : Address). rw e (before.times a) }
known limits (Left b ∷ history) timely = let before = known limits history timely in record { once = before.once; times = before.times }
known limits (Wrong None now ∷ history) timely =
    let before = known limits history timely.1.1 in
    record { once = before.once; times = λ (a : Address). waits (wrongs_of a history) (times_of a (seen_of limits history).guessers) (last_time history) now timely.0 (before.times a) }
known limits (Wrong (Some b) now ∷ history) timely =
    let before = known limits history timely.1.1 in
    let guessers = (seen_of limits history).guessers in
    let all = whole b now guessers timely.1.0 in
    record {
      once = subst Once (sym all) (not_others b now guessers, still_once b now guessers before.once);
      times = λ (a : Address). subst (λ (put : List Guesser). Remembers (times_with a (Some b) now (wrongs_of a history)) (times_of a put) now) (sym all) (one_by a b (wrongs_of a history) (last_time history) now guessers (b.bits == a.bits) refl timely.0 before.once (before.times a));
    }

waits_of : (all kept : List ℕ) (latest now : ℕ) → latest ≤ now → Remembers all kept latest → rest_of kept now ≡ rest_of all now
waits_of all kept latest now le r =
    ap (λ (times : List ℕ). rest_of times now) r.is_kept
    ∙ same_rest 19 r.newer r.older now (old_later latest now le r.older r.old)
    ∙ ap (λ (times : List ℕ). rest_of times now) (sym r.parts)

pub waits_by_all : (limits : Limits) (history : List Entry) (a : Address) (now : ℕ) → IsTimely limits history → last_time history ≤ now
    → wait_of (Some a) now (seen_of limits history).guessers ≡ rest_of (wrongs_of a history) now
waits_by_all limits history a now timely le = waits_of (wrongs_of a history) (times_of a (seen_of limits history).guessers) (last_time history) now le ((known limits history timely).times a)
