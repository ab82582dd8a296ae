use Rattle.agent_history.specs.Histories.{History}
use Rattle.agent_core.specs.Agents.{StandsFor}
use Rattle.agent_hub.specs.Exchanging.{Taking}
use Rattle.agent_hub.proofs.exchange.take_until.Given as goal

abbrev pub invariant-loop-taken : goal.invariant-loop-taken
invariant-loop-taken l = (H : History) → StandsFor H l.fn.agent → Taking H l.conn l.taken l.fn.out l.out l.agent
