use Rattle.std.proofs.Common.{refl, subst}
use Rattle.agent_core.specs.Agents.{StandsBy}
use Rattle.agent_core.proofs.EventSteps.{stopped_last}
use Rattle.agent_core.proofs.agent.Agent.outcome.Goals as goal

pub returns-in-Stopped : goal.returns-in-Stopped
returns-in-Stopped c = λ H h.
    let last = stopped_last H (subst (StandsBy H) c.in-Stopped.is h.stands) in
    rw last.1 refl
