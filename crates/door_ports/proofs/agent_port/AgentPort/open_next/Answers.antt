use Rattle.std.proofs.Common.{ap, refl, ◌∙◌}
use Rattle.door_ports.specs.Settings.{next_conv}
use Rattle.door_ports.proofs.KeepLaws.{opened_none, opened_some}
use Rattle.door_ports.proofs.agent_port.AgentPort.open_next.Goals as goal

pub returns-then-not-lets : goal.returns-then-not-lets
returns-then-not-lets g c = λ s past done keeps stands.
    opened_none (g.A.AskedAgent.stands past) s done c.next_conv-fid.result c.in_ok-lets.lets c.args.self.now _ c.if-not-lets.true keeps (record { works = refl; conn = refl; word = refl; is_ready = refl }) refl (c.next_conv-fid.ensures ∙ ap next_conv c.deref.ensures.value)
    (c.in_ok-lets.ensures past done stands)

pub returns : goal.returns
returns g c = λ s past done keeps stands.
    opened_some (g.A.AskedAgent.stands past) s done c.next_conv-fid.result c.in_ok-lets.lets c.args.self.now _ c.if-not-lets.false keeps (record { works = refl; conn = refl; word = refl; is_ready = refl }) c.in_ok-push.ensures.items (c.next_conv-fid.ensures ∙ ap next_conv c.deref.ensures.value)
    (c.in_ok-lets.ensures past done stands)
