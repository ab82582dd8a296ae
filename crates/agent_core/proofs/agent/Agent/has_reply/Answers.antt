use Rattle.std.proofs.Common.{subst, ◌∙◌}
use Rattle.agent_core.specs.declared.agent.State.TheVariants.{Runs, Stopped}
use Rattle.agent_core.specs.Agents.{StandsBy}
use Rattle.agent_core.proofs.AgentSteps.{gives_told}
use Rattle.agent_core.proofs.agent.Agent.has_reply.Goals as goal

pub returns-in-Stopped-clause-told : goal.returns-in-Stopped-clause-told
returns-in-Stopped-clause-told c = λ H h. gives_told H c.args.conn Stopped (subst (StandsBy H) c.in-Stopped.is h.stands)

pub returns-in-Runs-clause-told : goal.returns-in-Runs-clause-told
returns-in-Runs-clause-told c = λ H h. c.has_reply.ensures ∙ gives_told H c.args.conn (Runs c.in-Runs.running) (subst (StandsBy H) c.in-Runs.is h.stands)
