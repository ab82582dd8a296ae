use Rattle.std.proofs.Common.{refl}
use Rattle.std.proofs.lemmas.Result.{err_from_is_err_and}
use Rattle.agent_history.specs.declared.event.Event.TheVariants as events
use Rattle.agent_core.proofs.AgentSteps.{runs_next, runs_same}
use Rattle.agent_core.proofs.agent.Running.request.Goals as goal

pub returns-clause-stands : goal.returns-clause-stands
returns-clause-stands c = λ H runs. runs_next H (events.Request c.args.conn c.args.frame.now c.args.word) c.args.self.now _ runs (refl, c.requires.more) refl c.in_ok-request_at.ensures.lives

pub returns-in_err-request_at-clause-err_stands : goal.returns-in_err-request_at-clause-err_stands
returns-in_err-request_at-clause-err_stands c =
    let p = err_from_is_err_and c.from_residual.result c.from_residual.ensures.1 in
    rw p.1 (λ H runs. runs_same H c.args.self.now _ runs (record { events = refl; shared = c.in_err-request_at.ensures.err_shared; connections = c.in_err-request_at.ensures.err }))
