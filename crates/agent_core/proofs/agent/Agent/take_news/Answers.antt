use Rattle.std.proofs.Common.{refl, subst}
use Rattle.agent_core.specs.Agents.{StandsBy, connection_at}
use Rattle.agent_core.proofs.AgentSteps.{runs_same, same_itself}
use Rattle.agent_core.proofs.agent.Agent.take_news.Goals as goal

pub returns-in-Runs : goal.returns-in-Runs
returns-in-Runs c = λ H h. record {
  stands = runs_same H c.in-Runs.running _ (subst (StandsBy H) c.in-Runs.is h.stands) (record { events = refl; shared = c.news_of.ensures.same; connections = λ q. same_itself (connection_at c.in-Runs.running q) });
}
