-- Of the code alone: lines whose room was made ahead.
use Rattle.std.specs.Prelude.{ℕ, List}

-- what was written of a line, and how many bytes may stand behind it
pub record Room : Type 0 where
  pub text : List ℕ
  pub left : ℕ
