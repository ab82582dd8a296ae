-- Whole frames at the front of what a framer holds.
use Rattle.std.specs.Prelude.{◌≡◌, ◌≤◌, ℕ, List, length, take}
use Rattle.std.specs.List.{AllByRecursion, concat}
use Rattle.nine.specs.Streams.{front, IsBad, IsShort}
use Rattle.nine.specs.Framing.{IsWithin}
use Rattle.nine.specs.declared.batch.Behind.{Behind}
use Rattle.nine.specs.declared.batch.Behind.TheVariants.{More, Short, Bad}

-- so many bytes at the front are so many whole frames
pub record AreFrames (limit : ℕ) (held : List ℕ) (count size : ℕ) : Type 0 where
  pub some : List (List ℕ)
  pub parts : take size held ≡ concat some
  pub count_is : count ≡ length some
  pub within : size ≤ length held
  pub each : AllByRecursion (IsWithin limit) some

-- what stands behind them: perhaps one more, none yet, or a bad size
abbrev pub FollowsSo : Behind → ℕ → List ℕ → Type 0
FollowsSo More limit rest = Unit {0}
FollowsSo Short limit rest = front limit rest ≡ IsShort
FollowsSo (Bad size) limit rest = front limit rest ≡ IsBad size
