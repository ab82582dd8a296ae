-- When the questions to users and the lines of the log are those that a list of deeds tells of. After factotum(4) of
-- the Plan 9 manual (confirm, needkey, log).
use Rattle.std.specs.Prelude.{◌≡◌, List}
use Rattle.side_files.specs.declared.line.PromptKind.{PromptKind}
use Rattle.side_files.specs.declared.line.PromptKind.TheVariants as k
use Rattle.side_files.specs.Questions.{Questions}
use Rattle.conversations.specs.declared.asks.Asks.{Asks}
use Rattle.conversations.specs.Asking.{unmade}
use Rattle.agent_history.specs.Deeds.{Deed, is_debug}
use Rattle.agent_history.specs.SideFiles.{log_of, prompts_of}
use Rattle.agent_talks.specs.declared.files.LineFiles.{LineFiles}

-- the questions of a kind
abbrev pub asked_in : PromptKind → Asks → Questions
asked_in k.Confirm asks = asks.confirm
asked_in k.Needkey asks = asks.needkey

-- whether the next questions are made or not, and whatever further lines are wanted
pub record Files (done : List Deed) (f : LineFiles) : Type 0 where
  pub confirm : unmade f.asks.confirm ≡ prompts_of done k.Confirm
  pub needkey : unmade f.asks.needkey ≡ prompts_of done k.Needkey
  pub log : f.log ≡ log_of done
  pub debug : f.debug ≡ is_debug done
