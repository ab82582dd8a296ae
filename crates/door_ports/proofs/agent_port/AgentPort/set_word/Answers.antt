use Rattle.std.proofs.Common.{refl}
use Rattle.door_ports.proofs.PortLaws.{told_so}
use Rattle.door_ports.proofs.agent_port.AgentPort.set_word.Goals as goal

pub returns : goal.returns
returns g c = λ s calls more so. told_so g.A.AskedAgent.stands s calls more c.args.word c.args.self.now _ refl refl refl refl refl refl so
