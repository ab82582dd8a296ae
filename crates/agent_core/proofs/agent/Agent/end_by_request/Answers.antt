use Rattle.std.proofs.Common.{ℕ, List, ◌∷◌, subst}
use Rattle.agent_history.specs.declared.event.Event.TheVariants as events
use Rattle.agent_core.specs.Agents.{StandsFor}
use Rattle.agent_core.proofs.agent.Agent.end_by_request.Goals as goal

pub returns-clause-stands : goal.returns-clause-stands
returns-clause-stands c = λ H stands. subst (λ (frame : List ℕ). StandsFor (events.Request c.args.conn frame c.args.word ∷ H) c.step.new.self) c.in_ok-frame.ensures (c.in_ok-step.ensures.stands H stands)
