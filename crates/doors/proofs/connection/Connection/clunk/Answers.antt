use Rattle.std.proofs.lemmas.Result.{on_ok_weaker}
use Rattle.doors.proofs.ServeLemmas.{clunked}
use Rattle.doors.proofs.connection.Connection.clunk.Goals as goal

pub returns-clause-ok : goal.returns-clause-ok
returns-clause-ok g c = on_ok_weaker c.put_clunk.result (λ said done setting past keeps told.
    clunked (g.P.Port.stands setting) done past c.args.tag c.args.fid c.give_up.new.self c.give_up.new.port _ _ (c.give_up.ensures done setting past keeps told) said) c.put_clunk.ensures.ok
