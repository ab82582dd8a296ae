use Rattle.std.proofs.lemmas.Result.{on_ok_weaker}
use Rattle.door_ports.proofs.AskLemmas.{clunked_did}
use Rattle.door_ports.proofs.exchange.clunk.Goals as goal

pub returns : goal.returns
returns g c = on_ok_weaker c.send.result (λ sent past done stands. clunked_did (g.A.AskedAgent.stands past) c.args.conn c.args.fid done _ _ c.in_ok-clunks.ensures.is (sent past done stands)) c.send.ensures
