use Rattle.std.proofs.Common.{List, ℕ, ap, refl, sym, ◌∙◌}
use Rattle.std.specs.Prelude.{◌==◌, find}
use Rattle.std.proofs.lemmas.Result.{on_ok_weaker}
use Rattle.door_ports.proofs.KeepLaws.{given_up, not_open}
use Rattle.door_ports.proofs.agent_port.AgentPort.give_up.Goals as goal

pub returns-in_default : goal.returns-in_default
returns-in_default g c = λ s past done keeps stands.
    not_open (g.A.AskedAgent.stands past) s c.args.conv _ done c.args.self.now keeps (ap (λ (l : List ℕ). find (λ x. x == c.args.conv) l) (sym c.deref.ensures.value) ∙ sym c.fid_of.ensures) c.in_default.not-Some stands

pub returns : goal.returns
returns g c = on_ok_weaker c.clunk.result (λ clunks s past done keeps stands.
    given_up (g.A.AskedAgent.stands past) s c.args.conv c.in-Some.fid done c.args.self.now _ keeps (record { works = refl; conn = refl; word = refl; is_ready = refl }) refl
    (ap (λ (l : List ℕ). find (λ x. x == c.args.conv) l) (sym c.deref.ensures.value) ∙ sym c.fid_of.ensures ∙ c.in-Some.is) (clunks past done stands)) c.clunk.ensures
