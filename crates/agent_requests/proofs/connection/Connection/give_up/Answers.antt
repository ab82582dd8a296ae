use Rattle.agent_history.specs.Deeds.{OfFids, Clunked}
use Rattle.agent_requests.proofs.KeepLemmas.{keeps_ended}
use Rattle.agent_requests.proofs.connection.Connection.give_up.Goals as goal

pub returns-clause-keeps : goal.returns-clause-keeps
returns-clause-keeps c = λ done k.
    let a = c.args in
    keeps_ended (OfFids a.call.conn (Clunked a.fid)) done a.call.conn a.self.now c.drop_fid.new.self (λ now n. c.drop_fid.ensures.keeps now a.call.conn n) k
