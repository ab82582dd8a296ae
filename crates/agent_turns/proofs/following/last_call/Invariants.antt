-- the last of the questions that are left, or the one before them, is the last of all
use Rattle.std.proofs.Common.{◌≡◌, None, drop}
use Rattle.world_history.specs.Worlds.{last_call}
use Rattle.agent_turns.proofs.following.last_call.Given as goal

abbrev pub invariant-loop-question : goal.invariant-loop-question
invariant-loop-question l = last_call (drop l.question-index l.questions) l.call ≡ last_call l.questions None
