use Rattle.std.proofs.Common.{List, ℕ, ◌∷◌, subst}
use Rattle.std.proofs.lemmas.Result.{IfOk-weaker}
use Rattle.door_ports.specs.Exchanges.{exchange}
use Rattle.door_ports.proofs.exchange.read.Goals as goal

pub returns : goal.returns
returns g c = IfOk-weaker c.exchange.result _ _ (λ reply leaves past done stands.
    subst (λ (f : List ℕ). g.A.AskedAgent.stands past (exchange c.args.conn f c.args.word reply ∷ done) c.exchange.new.self) c.in_ok-frame.ensures.is (leaves past done stands)) c.exchange.ensures
