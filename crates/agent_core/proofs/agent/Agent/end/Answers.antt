use Rattle.std.proofs.Common.{◌∷◌, refl, sym, subst}
use Rattle.agent_core.specs.Agents.{StandsBy}
use Rattle.agent_core.proofs.AgentSteps.{ends_stopped, runs_same}
use Rattle.agent_core.proofs.agent.Agent.end.Goals as goal

pub returns-in-Ok-clause-stands : goal.returns-in-Ok-clause-stands
returns-in-Ok-clause-stands c = λ H runs. subst (StandsBy (c.args.event.now ∷ H)) (sym c.requires.stopped) (ends_stopped H c.args.event.now c.args.running runs c.requires.ends)

pub returns-in-Err-clause-err_stands : goal.returns-in-Err-clause-err_stands
returns-in-Err-clause-err_stands c = λ H runs. runs_same H c.args.running _ runs (record { events = refl; shared = c.in-Err.ensures.err_shared; connections = c.in-Err.ensures.err })
