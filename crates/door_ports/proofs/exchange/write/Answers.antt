use Rattle.std.proofs.Common.{List, ℕ, ◌∷◌, ap, subst, ◌∙◌}
use Rattle.std.proofs.lemmas.Result.{IfOk-weaker}
use Rattle.door_ports.specs.Exchanges.{exchange, no_word, writes}
use Rattle.door_ports.proofs.exchange.write.Goals as goal

pub returns : goal.returns
returns g c = IfOk-weaker c.exchange.result _ _ (λ reply leaves past done stands.
    subst (λ (f : List ℕ). g.A.AskedAgent.stands past (exchange c.args.conn f no_word reply ∷ done) c.exchange.new.self)
    (c.in_ok-frame.ensures.is ∙ ap (λ (content : List ℕ). writes c.args.fid content) c.in_ok-content.ensures) (leaves past done stands)) c.exchange.ensures
