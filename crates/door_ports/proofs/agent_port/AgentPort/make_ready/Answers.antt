use Rattle.std.proofs.Common.{refl}
use Rattle.door_ports.proofs.KeepLaws.{made_ready, was_ready}
use Rattle.door_ports.proofs.agent_port.AgentPort.make_ready.Goals as goal

pub returns-then-self : goal.returns-then-self
returns-then-self g c = λ s past done keeps stands. was_ready (g.A.AskedAgent.stands past) s done c.args.self.now keeps c.if-self.true stands

pub returns : goal.returns
returns g c = λ s past done keeps stands. made_ready (g.A.AskedAgent.stands past) s done c.args.self.now _ keeps c.if-self.false refl refl refl refl refl (c.in_ok-prepare.ensures past done stands)
