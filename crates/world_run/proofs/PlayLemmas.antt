-- One line after the other.
use Rattle.std.proofs.Common.{◌≡◌, ℕ, List, [], ◌∷◌, ◌++◌, Option, Some, None, Result, Ok, Err, sym, ap, ◌∙◌, append_assoc, append-nil}
use Rattle.wire_histories.specs.declared.step.Step.{Step}
use Rattle.world_scripts.specs.Reading.{line_of}
use Rattle.world_scripts.specs.Scripts.{Numbered}
use Rattle.auth_program.specs.declared.cause.ScriptCause.{ScriptCause}
use Rattle.world_history.specs.Acts.{Act}
use Rattle.world_history.specs.Scripts.{Played, go_on, judged, played, plays}
use Rattle.world_history.specs.Worlds.{steps, steps_by}

-- what is recorded already is the front of what lines behind it come to
pub record Behind (acts : List Act) (p : Played) : Type 0 where
  pub rest : List Step
  pub front : steps acts ++ rest ≡ steps p.acts

behind_here : (acts : List Act) (refused : Option (ℕ × ScriptCause)) → Behind acts (played acts refused)
behind_here acts refused = record { rest = []; front = append-nil (steps acts) }

behind_one : (acts : List Act) (act : Act) (p : Played) → Behind (act ∷ acts) p → Behind acts p
behind_one acts act p b = record {
  rest = steps_by _ acts act ++ b.rest;
  front = sym (append_assoc (steps acts) (steps_by _ acts act) b.rest) ∙ b.front;
}

behind_go : (acts : List Act) (number : ℕ) (r : Result Act ScriptCause) (more : List Numbered) → ((act : Act) → Behind (act ∷ acts) (plays (act ∷ acts) more)) → Behind acts (go_on acts number r (λ done. plays done more))
behind_go acts number (Err cause) more goes = behind_here acts (Some (number, cause))
behind_go acts number (Ok act) more goes = behind_one acts act (plays (act ∷ acts) more) (goes act)

pub is_behind : (lines : List Numbered) (acts : List Act) → Behind acts (plays acts lines)
is_behind [] acts = behind_here acts None
is_behind (line ∷ more) acts = behind_go acts line.number (judged acts (line_of line.text)) more (λ act. is_behind more (act ∷ acts))

-- a line that is done, and one that is refused
pub plays_on : (line : Numbered) (left : List Numbered) (acts : List Act) (act : Act) → judged acts (line_of line.text) ≡ Ok act → plays acts (line ∷ left) ≡ plays (act ∷ acts) left
plays_on line left acts act is = ap (λ (r : Result Act ScriptCause). go_on acts line.number r (λ done. plays done left)) is

pub plays_no_more : (line : Numbered) (left : List Numbered) (acts : List Act) (cause : ScriptCause) → judged acts (line_of line.text) ≡ Err cause → plays acts (line ∷ left) ≡ played acts (Some (line.number, cause))
plays_no_more line left acts cause is = ap (λ (r : Result Act ScriptCause). go_on acts line.number r (λ done. plays done left)) is
