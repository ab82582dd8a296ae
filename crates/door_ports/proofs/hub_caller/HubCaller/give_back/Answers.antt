use Rattle.std.proofs.Common.{subst}
use Rattle.door_ports.specs.Seated.{IsHeld}
use Rattle.door_ports.proofs.SeatLemmas.{seat_so}
use Rattle.door_ports.proofs.hub_caller.HubCaller.give_back.Goals as goal

pub returns-clause-seat : goal.returns-clause-seat
returns-clause-seat g c = seat_so c.args.self.hub.now c.unwrap.result (subst (IsHeld c.args.self.hub.now) c.unwrap.ensures c.args.self.seated)
