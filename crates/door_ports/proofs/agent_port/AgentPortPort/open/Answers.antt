use Rattle.std.proofs.Common.{◌∷◌, ◌++◌, ℕ, Option, refl, subst, sym}
use Rattle.doors.specs.declared.port.PortOpen.TheVariants as o
use Rattle.doors.specs.Calls.{Opened}
use Rattle.door_ports.specs.Ports.{Makes, Stands, opened_as}
use Rattle.door_ports.specs.Settings.{after}
use Rattle.door_ports.proofs.PortLaws.{finds_none, found_none, makes_one, works_so}
use Rattle.door_ports.proofs.agent_port.AgentPortPort.open.Goals as goal

pub returns-then-self : goal.returns-then-self
returns-then-self g c = λ s calls so. found_none g.A.AskedAgent.stands s calls (Opened o.NoMemory) c.args.self.now refl c.if-self.true so

pub returns-in-Ok-Some : goal.returns-in-Ok-Some
returns-in-Ok-Some g c = λ s calls so.
    let w = works_so g.A.AskedAgent.stands s calls so.0 c.args.self.now c.if-self.false so.1 in
    let makes = subst (λ (conv : Option ℕ). Makes (g.A.AskedAgent.stands s.past) (after s.setting calls) (Opened (opened_as conv)) (so.0 ++ s.done) c.begin.new.self) c.in-Ok-Some.field-0-is (c.in-Ok-Some.ensures (after s.setting calls) s.past (so.0 ++ s.done) w.keeps w.agent) in
    subst (λ (n : ℕ). Stands g.A.AskedAgent.stands s (Opened (o.Open n) ∷ calls) c.begin.new.self) (sym c.from.ensures)
    (makes_one g.A.AskedAgent.stands s calls so.0 (Opened (o.Open c.in-Ok-Some.conv)) c.args.self.now c.begin.new.self w makes)

pub returns-in-Ok-None : goal.returns-in-Ok-None
returns-in-Ok-None g c = λ s calls so.
    let w = works_so g.A.AskedAgent.stands s calls so.0 c.args.self.now c.if-self.false so.1 in
    let makes = subst (λ (conv : Option ℕ). Makes (g.A.AskedAgent.stands s.past) (after s.setting calls) (Opened (opened_as conv)) (so.0 ++ s.done) c.begin.new.self) c.in-Ok-None.field-0-is (c.in-Ok-None.ensures (after s.setting calls) s.past (so.0 ++ s.done) w.keeps w.agent) in
    makes_one g.A.AskedAgent.stands s calls so.0 (Opened o.Refused) c.args.self.now c.begin.new.self w makes

pub returns-in-Err : goal.returns-in-Err
returns-in-Err g c = λ s calls so. finds_none g.A.AskedAgent.stands s calls (Opened o.NoMemory) c.args.self.now refl so
