use Rattle.std.proofs.lemmas.Result.{IfOk-weaker}
use Rattle.door_ports.proofs.KeepLaws.{said_so}
use Rattle.door_ports.proofs.agent_port.AgentPort.answer.Goals as goal

pub returns : goal.returns
returns g c = IfOk-weaker c.hand_over.result _ _ (λ came says s past done keeps stands.
    said_so (g.A.AskedAgent.stands past) s c.args.conv c.args.request.now c.in_ok-reply.reply came c.hand_over.new.out done c.ask.new.self (c.in_ok-reply.ensures s past done keeps stands) says) c.hand_over.ensures
