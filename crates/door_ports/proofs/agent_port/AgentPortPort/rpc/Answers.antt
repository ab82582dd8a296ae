use Rattle.std.proofs.Common.{◌++◌, refl}
use Rattle.doors.specs.declared.port.PortSaid.TheVariants as p
use Rattle.doors.specs.Calls.{Asked}
use Rattle.door_ports.specs.Settings.{after}
use Rattle.door_ports.proofs.PortLaws.{finds_none, found_none, makes_one, works_so}
use Rattle.door_ports.proofs.agent_port.AgentPortPort.rpc.Goals as goal

pub returns-then-self : goal.returns-then-self
returns-then-self g c = λ s calls so. found_none g.A.AskedAgent.stands s calls (Asked c.args.conv c.args.request.now p.NoMemory c.args.out.now) c.args.self.now refl c.if-self.true so

pub returns-in-Ok : goal.returns-in-Ok
returns-in-Ok g c = λ s calls so.
    let w = works_so g.A.AskedAgent.stands s calls so.0 c.args.self.now c.if-self.false so.1 in
    makes_one g.A.AskedAgent.stands s calls so.0 (Asked c.args.conv c.args.request.now c.in-Ok.said c.answer.new.out) c.args.self.now c.answer.new.self w
    (c.in-Ok.ensures (after s.setting calls) s.past (so.0 ++ s.done) w.keeps w.agent)

pub returns-in-Err : goal.returns-in-Err
returns-in-Err g c = λ s calls so. finds_none g.A.AskedAgent.stands s calls (Asked c.args.conv c.args.request.now p.NoMemory c.answer.new.out) c.args.self.now refl so
