use Rattle.std.proofs.lemmas.Result.{IfOk-weaker}
use Rattle.door_ports.specs.Ports.{opened_as}
use Rattle.door_ports.proofs.KeepLaws.{begun}
use Rattle.door_ports.proofs.agent_port.AgentPort.begin.Goals as goal

pub returns : goal.returns
returns g c = IfOk-weaker c.open_next.result _ _ (λ conv opens s past done keeps stands.
    let ready = c.in_ok-make_ready.ensures s past done keeps stands in
    begun (g.A.AskedAgent.stands past) s (opened_as conv) done c.make_ready.new.self c.open_next.new.self ready (opens s past _ ready.keeps ready.did.leaves)) c.open_next.ensures
