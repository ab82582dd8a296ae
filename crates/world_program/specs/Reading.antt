-- Of the code alone: the command that clap is asked for, as its own definitions see it, and what was read by it.
use Rattle.std.specs.Prelude.{◌≡◌, ℕ, List, codes}
use Rattle.clap.specs.Words.{App, new_app, with_rule}
use Rattle.auth_program.specs.Reading.{option_rule}
use Rattle.world_program.specs.Words.{gen_value}
use Rattle.world_program.specs.declared.words.GenTexts.{GenTexts}

-- the command of `gen`
abbrev pub gen_app : App
gen_app = with_rule (with_rule (new_app (codes "gen")) (option_rule (codes "number"))) (option_rule (codes "rounds"))

-- each value is the one behind its option
pub record HasTexts (words : List (List ℕ)) (given : GenTexts) : Type 0 where
  pub number : given.number ≡ gen_value (codes "--number") words
  pub rounds : given.rounds ≡ gen_value (codes "--rounds") words
