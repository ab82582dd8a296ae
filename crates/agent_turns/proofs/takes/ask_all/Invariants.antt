use Rattle.agent_history.specs.Histories.{History}
use Rattle.agent_core.specs.Agents.{StandsFor, left_in}
use Rattle.agent_turns.proofs.AskLemmas.{Asking}
use Rattle.agent_turns.proofs.takes.ask_all.Given as goal

abbrev pub invariant-loop-questions : goal.invariant-loop-questions
invariant-loop-questions l = (H : History) → StandsFor H l.fn.agent → Asking H l.agent l.questions

abbrev pub decreases-loop-questions : goal.decreases-loop-questions
decreases-loop-questions l = left_in l.agent.state
