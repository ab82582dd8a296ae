use Rattle.std.proofs.Common.{◌∷◌}
use Rattle.agent_history.specs.declared.event.Event.TheVariants as events
use Rattle.agent_core.proofs.agent.Agent.serve.Goals as goal

pub returns-clause-served : goal.returns-clause-served
returns-clause-served c = λ H stands. c.take_all.ensures (events.Request c.args.conn c.args.frame.now c.args.word ∷ H) (c.in_ok-request.ensures.stands H stands)
