use Rattle.std.proofs.Common.{◌≡◌, ℕ, ◌+◌, ◌-◌, sym, ap, refl, ◌∙◌, arith}
use Rattle.door_ports.specs.Settings.{least_from, next_conv}
use Rattle.door_ports.proofs.ConvLemmas.{least_here, least_later}
use Rattle.door_ports.proofs.agent_port.next_conv.Goals as goal

pub loop-at-init : goal.loop-at-init
unfolding next_conv
loop-at-init c = refl

pub returns-then-not-holds : goal.returns-then-not-holds
returns-then-not-holds c = sym (least_here (258 - c.loop-at.at) c.loop-at.at c.args.convs.now (sym c.holds.ensures ∙ c.if-not-holds.true)) ∙ c.loop-at.invariant

pub loop-at-preserved : goal.loop-at-preserved
loop-at-preserved c =
    let one_less : 258 - (c.loop-at.at + 1) ≡ 258 - c.loop-at.at - 1 = omega arith in
    ap (λ (k : ℕ). least_from k (c.loop-at.at + 1) c.args.convs.now) one_less
    ∙ sym (least_later (258 - c.loop-at.at) c.loop-at.at c.args.convs.now (omega (arith, c.loop-at-test.true)) (sym c.holds.ensures ∙ c.if-not-holds.false)) ∙ c.loop-at.invariant
