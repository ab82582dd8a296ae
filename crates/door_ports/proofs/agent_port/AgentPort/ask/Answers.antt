use Rattle.std.proofs.Common.{List, ℕ, ap, refl, sym, ◌∙◌}
use Rattle.std.specs.Prelude.{◌==◌, find}
use Rattle.std.proofs.lemmas.Result.{IfOk-weaker}
use Rattle.door_ports.proofs.KeepLaws.{asked_held, asked_none}
use Rattle.door_ports.proofs.agent_port.AgentPort.ask.Goals as goal

pub returns-in_default : goal.returns-in_default
returns-in_default g c = λ s past done keeps stands.
    asked_none (g.A.AskedAgent.stands past) s c.args.conv c.args.request.now _ _ done c.args.self.now keeps (ap (λ (l : List ℕ). find (λ x. x == c.args.conv) l) (sym c.deref.ensures.value) ∙ sym c.fid_of.ensures) c.in_default.not-Some c.in_ok-text.ensures stands

pub returns : goal.returns
returns g c = IfOk-weaker c.tell.result _ _ (λ reply tells s past done keeps stands.
    asked_held (g.A.AskedAgent.stands past) s c.args.conv c.in-Some.fid c.args.request.now c.word_for-word.result reply done c.args.self.now _ keeps (record { works = refl; conn = refl; word = refl; is_ready = refl }) refl
    (ap (λ (l : List ℕ). find (λ x. x == c.args.conv) l) (sym c.deref.ensures.value) ∙ sym c.fid_of.ensures ∙ c.in-Some.is) (c.word_for-word.ensures s keeps) (tells past done stands)) c.tell.ensures
