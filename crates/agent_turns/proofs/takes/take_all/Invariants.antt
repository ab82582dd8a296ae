use Rattle.agent_history.specs.Histories.{History}
use Rattle.agent_core.specs.Agents.{StandsFor, kept_replies}
use Rattle.agent_turns.proofs.TakeLemmas.{Taking}
use Rattle.agent_turns.proofs.takes.take_all.Given as goal

abbrev pub invariant-loop-replies : goal.invariant-loop-replies
invariant-loop-replies l = (H : History) → StandsFor H l.fn.agent → Taking H l.agent l.replies

abbrev pub decreases-loop-replies : goal.decreases-loop-replies
decreases-loop-replies l = kept_replies l.agent 0
