-- Those of a row of servers that pass a test, taken one after the other.
use Rattle.std.proofs.Common.{◌≡◌, ℕ, zero, suc, ◌+◌, ◌-◌, ◌<◌, ◌≤◌, List, [], ◌∷◌, ◌++◌, Bool, true, false, if◌then◌else◌, refl, sym, ap, subst, ◌∙◌, arith, append_assoc, append-nil}
use Rattle.std.specs.List.{AllByRecursion}
use Rattle.sockets.specs.Failures.{those}

those_more : (test : ℕ → Bool) (from count : ℕ) → from < count → those test from (count - from) ≡ those test from (suc (count - (from + 1)))
those_more test from count h = let e : count - from ≡ suc (count - (from + 1)) = omega (arith, h) in ap (those test from) e

pub kept : (test : ℕ → Bool) (from count : ℕ) (before : List ℕ) → from < count → test from ≡ true → (before ++ from ∷ []) ++ those test (from + 1) (count - (from + 1)) ≡ before ++ those test from (count - from)
kept test from count before h is =
    append_assoc before (from ∷ []) (those test (from + 1) (count - (from + 1)))
    ∙ ap (λ (l : List ℕ). before ++ l) (sym (those_more test from count h ∙ rw is refl))

pub passed : (test : ℕ → Bool) (from count : ℕ) (before : List ℕ) → from < count → test from ≡ false → before ++ those test (from + 1) (count - (from + 1)) ≡ before ++ those test from (count - from)
passed test from count before h is = ap (λ (l : List ℕ). before ++ l) (sym (those_more test from count h ∙ rw is refl))

pub ended : (test : ℕ → Bool) (from count : ℕ) (before : List ℕ) → count ≤ from → before ++ those test from (count - from) ≡ before
ended test from count before h = let e : count - from ≡ 0 = omega (arith, h) in ap (λ (n : ℕ). before ++ those test from n) e ∙ append-nil before

-- each is one of them
those_by : (t : Bool) (from most : ℕ) (later : List ℕ) → from < most → AllByRecursion (λ i. i < most) later → AllByRecursion (λ i. i < most) (if t then from ∷ later else later)
those_by true from most later h all = (h, all)
those_by false from most later h all = all

all_those : (test : ℕ → Bool) (from count most : ℕ) → from + count ≤ most → AllByRecursion (λ i. i < most) (those test from count)
all_those test from zero most h = tt
all_those test from (suc count) most h = those_by (test from) from most (those test (from + 1) count) (omega (arith, h)) (all_those test (from + 1) count most (omega (arith, h)))

all_both : (most : ℕ) (xs ys : List ℕ) → AllByRecursion (λ i. i < most) xs → AllByRecursion (λ i. i < most) ys → AllByRecursion (λ i. i < most) (xs ++ ys)
all_both most [] ys first second = second
all_both most (x ∷ xs) ys first second = (first.0, all_both most xs ys first.1 second)

all_of_two : (one two : ℕ → Bool) (count : ℕ) → AllByRecursion (λ i. i < count) (those one 0 count ++ those two 0 count)
all_of_two one two count = all_both count (those one 0 count) (those two 0 count) (all_those one 0 count count (omega arith)) (all_those two 0 count count (omega arith))

pub all_of_order : (one two : ℕ → Bool) (count : ℕ) (none first both : List ℕ) → none ≡ [] → first ≡ none ++ those one 0 count → both ≡ first ++ those two 0 count → AllByRecursion (λ i. i < count) both
all_of_order one two count none first both empty is_first is_both =
    subst (AllByRecursion (λ (i : ℕ). i < count))
    (sym (is_both ∙ ap (λ (l : List ℕ). l ++ those two 0 count) (is_first ∙ ap (λ (l : List ℕ). l ++ those one 0 count) empty)))
    (all_of_two one two count)
