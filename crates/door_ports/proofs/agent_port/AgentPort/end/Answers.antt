use Rattle.std.proofs.Common.{refl, ℕ, rules}
use Rattle.std.specs.Prelude.{◌==◌, not}
use Rattle.std.proofs.lemmas.Fn.{filter_same}
use Rattle.door_ports.proofs.KeepLaws.{keeps_closed}
use Rattle.door_ports.proofs.agent_port.AgentPort.end.Goals as goal

pub returns : goal.returns
returns g c = λ s past done keeps stands.
    let up = c.in_ok-give_up.ensures s past done keeps stands in
    record {
      keeps = keeps_closed s c.args.conv c.give_up.new.self _ up.keeps (record { works = refl; conn = refl; word = refl; is_ready = refl })
          (filter_same _ (λ (n : ℕ). not (n == c.args.conv)) _ (λ x b f k. search rules) c.give_up.new.self.convs.items c.retain.new.self.items c.retain.ensures.filtered);
      did = up.did;
    }
