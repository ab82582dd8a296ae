use Rattle.std.proofs.lemmas.Result.{IfOk-weaker}
use Rattle.door_ports.proofs.AskLemmas.{told_early, told_late}
use Rattle.door_ports.proofs.exchange.tell.Goals as goal

pub returns-in_default : goal.returns-in_default
returns-in_default g c = λ past done stands.
    told_early (g.A.AskedAgent.stands past) c.args.conn c.args.fid c.args.request.now c.args.word done c.in_ok-written.written c.write.new.agent c.in_default.not-Done (c.in_ok-written.ensures past done stands)

pub returns : goal.returns
returns g c = IfOk-weaker c.read.result _ _ (λ reply tells past done stands.
    told_late (g.A.AskedAgent.stands past) c.args.conn c.args.fid c.args.request.now c.args.word done c.in_ok-written.written reply c.read.new.agent c.in-Done.is (tells past _ (c.in_ok-written.ensures past done stands))) c.read.ensures
