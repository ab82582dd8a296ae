-- A move that passes: what it makes of a course, what it answers, and what is got by it.
use Rattle.std.proofs.Common.{◌≡◌, ℕ, List, [], ◌∷◌, Bool, true, false, Some, None, length, nat_lt, if◌then◌else◌, refl, sym, ap, subst, ◌∙◌, arith}
use Rattle.std.proofs.lemmas.Bool.{le-ltb}
use Rattle.std.proofs.lemmas.Slice.Eq.{bytes_eq-Decides}
use Rattle.std.specs.Str.{bytes_eq}
use Rattle.wire_base.specs.Rules.{Rule, first_told}
use Rattle.roles.specs.declared.answer.Cause.{Cause}
use Rattle.roles.specs.declared.answer.Gave.{Gave}
use Rattle.roles.specs.declared.answer.Gave.TheVariants as g
use Rattle.roles.specs.Courses.{answer_of, bytes_of, then_course, unless_broken}
use Rattle.roles.specs.Talks.{Progress, Verdict, goes, stays, sized, tested, unless_told}
use Rattle.complete_logins.specs.Calls.{IsWell}

-- how far a conversation is that isn't broken
abbrev pub at : {S : Type 0} → S → Progress S
at stage = record { stage = stage; broken = None }

-- what a move makes of how far it has come
abbrev pub verdict_by : {S : Type 0} → (S → Verdict S) → Progress S → Verdict S
verdict_by move p = unless_broken p.broken (move p.stage)

-- a call passes: how far it has come now, what was answered and what was got
pub record Passed {S : Type 0} (now : Progress S) (answered : Gave) (got : List ℕ) (next : S) (given : Gave) (bytes : List ℕ) : Type 0 where
  pub course : now ≡ at next
  pub answer : answered ≡ given
  pub puts : got ≡ bytes

pub passes : {S : Type 0} (move : S → Verdict S) (before : Progress S) (stage next : S) (given : Gave) (bytes : List ℕ) → before ≡ at stage → move stage ≡ goes next given bytes → Passed (then_course before (verdict_by move before)) (answer_of (verdict_by move before)) (bytes_of (verdict_by move before)) next given bytes
passes move before stage next given bytes here moves = record {
  course = ap (λ p. then_course p (verdict_by move p)) here ∙ ap (then_course (at stage)) moves;
  answer = ap (λ p. answer_of (verdict_by move p)) here ∙ ap answer_of moves;
  puts = ap (λ p. bytes_of (verdict_by move p)) here ∙ ap bytes_of moves;
}

-- it is answered well where what is given is well
pub well_of : {S : Type 0} {now : Progress S} {answered : Gave} {got : List ℕ} {next : S} {given : Gave} {bytes : List ℕ} → Passed now answered got next given bytes → IsWell given → IsWell answered
well_of passed well = subst IsWell (sym passed.answer) well

-- a message of its size
pub sized_whole : {S : Type 0} (size : ℕ) (b : List ℕ) (whole : Verdict S) → length b ≡ size → sized size b whole ≡ whole
sized_whole size b whole long =
    ap (λ (few : Bool). if few then stays (g.TooSmall size) else if nat_lt size (length b) then stays g.TooLong else whole) (le-ltb (length b) size (omega (arith, long)))
    ∙ ap (λ (many : Bool). if many then stays g.TooLong else whole) (le-ltb size (length b) (omega (arith, long)))

-- none of the tests fails
abbrev pub NoneFails : List (Rule Cause) → Type 0
NoneFails [] = Unit {0}
NoneFails (rule ∷ later) = (rule.0 ≡ false) × NoneFails later

none_told : (rules : List (Rule Cause)) → NoneFails rules → first_told rules ≡ None
none_told [] passed = refl
none_told (rule ∷ later) passed = ap (λ (fails : Bool). if fails then Some rule.1 else first_told later) passed.0 ∙ none_told later passed.1

pub tested_well : {S : Type 0} (rules : List (Rule Cause)) (v : Verdict S) → NoneFails rules → tested rules v ≡ v
tested_well rules v passed = ap (λ told. unless_told told v) (none_told rules passed)

-- a text is itself
pub same : (text : List ℕ) → bytes_eq text text ≡ true
same text = (bytes_eq-Decides text text).1 refl

-- it is what it is known to be
pub same_as : (a b : List ℕ) → a ≡ b → bytes_eq a b ≡ true
same_as a b e = (bytes_eq-Decides a b).1 e
