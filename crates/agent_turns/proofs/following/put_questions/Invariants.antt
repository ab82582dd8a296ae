-- the steps so far and those of the questions that are left are those of all questions, and their numbers go on
use Rattle.std.proofs.Common.{◌≡◌, ◌+◌, ◌++◌, drop}
use Rattle.world_history.specs.Talking.{ask_steps}
use Rattle.agent_turns.proofs.following.put_questions.Given as goal

abbrev pub invariant-loop-question : goal.invariant-loop-question
invariant-loop-question l = record {
  steps : l.steps.items ++ ask_steps l.at l.conv (drop l.question-index l.questions) ≡ l.fn.steps.items ++ ask_steps l.number l.conv l.questions;
  number : l.at ≡ l.number + l.question-index;
}
