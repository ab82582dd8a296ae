use Rattle.std.proofs.lemmas.Result.{on_ok_weaker}
use Rattle.doors.proofs.ServeLemmas.{answered_ok}
use Rattle.doors.proofs.connection.Connection.answer.Goals as goal

pub returns-in-Ok-clause-ok : goal.returns-in-Ok-clause-ok
returns-in-Ok-clause-ok g c = on_ok_weaker c.carry_out.result (λ carried done setting past keeps told.
    answered_ok (g.P.Port.stands setting) done past c.args.frame.now c.in-Ok.body c.carry_out.new.self c.carry_out.new.port _ _ (c.in-Ok.ensures.ok done keeps) (rw c.tag_of.ensures at (carried done setting past keeps told))) c.carry_out.ensures.ok
