use Rattle.std.proofs.Common.{subst, sym, ◌∙◌}
use Rattle.std.proofs.lemmas.Result.{IfOk-weaker}
use Rattle.door_ports.specs.Hubs.{ConversesBy}
use Rattle.door_ports.specs.Seated.{IsHeld}
use Rattle.door_ports.proofs.SeatLemmas.{seat_so}
use Rattle.door_ports.proofs.hub_caller.HubCallerAskedAgent.exchange.Goals as goal

pub ask-seat-requires-clause-seat : goal.ask-seat-requires-clause-seat
ask-seat-requires-clause-seat g c = seat_so c.args.self.now.hub.now c.in-Some.seat (subst (IsHeld c.args.self.now.hub.now) (sym c.take.ensures.value ∙ c.in-Some.is) c.args.self.now.seated)

pub returns : goal.returns
returns g c = IfOk-weaker c.ask-seat.result.1 _ _ (λ reply told past done so. told past done (subst (ConversesBy past done) (sym c.take.ensures.value ∙ c.in-Some.is) so)) c.ask-seat.ensures.told
