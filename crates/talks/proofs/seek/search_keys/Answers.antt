use Rattle.std.proofs.Common.{ℕ, ◌+◌, true, false, ◌∙◌, sym, ap, ◌-◌, arith}
use Rattle.std.specs.Prelude.{Option, option_copied}
use Rattle.key_lists.specs.Finding.{in_turn}
use Rattle.key_lists.specs.Lists.{KeyEntry, next_serving}
use Rattle.talks.specs.Seeking.{found_past}
use Rattle.talks.proofs.SeekLemmas.{begins, goes_on, takes}
use Rattle.talks.proofs.seek.search_keys.Goals as goal

pub loop-turn-init : goal.loop-turn-init
loop-turn-init c =
    ap (λ (next : Option KeyEntry). found_past false c.args.said.now c.args.asking (in_turn c.args.template.now c.args.role.now c.args.ring.now (c.len-most.result - 0) next)) c.find-next.ensures.value
    ∙ begins c.args.template.now c.args.role.now c.args.ring.now c.args.said.now c.args.asking (c.len-most.result - 0) c.len-most.ensures.ordered (omega arith)

pub returns-then-not-is_passed_over : goal.returns-then-not-is_passed_over
returns-then-not-is_passed_over c =
    c.take_key.ensures
    ∙ sym (takes c.args.template.now c.args.role.now c.args.ring.now c.args.said.now c.args.asking c.loop-turn.passed c.len-most.result c.loop-turn.turn c.in-Some.key.now c.loop-turn-test.true (sym c.is_passed_over.ensures ∙ c.if-not-is_passed_over.true))
    ∙ ap (λ (next : Option KeyEntry). found_past c.loop-turn.passed c.args.said.now c.args.asking (in_turn c.args.template.now c.args.role.now c.args.ring.now (c.len-most.result - c.loop-turn.turn) next)) (sym (ap option_copied c.in-Some.is))
    ∙ c.loop-turn.invariant

pub loop-turn-preserved : goal.loop-turn-preserved
loop-turn-preserved c =
    ap (λ (next : Option KeyEntry). found_past true c.args.said.now c.args.asking (in_turn c.args.template.now c.args.role.now c.args.ring.now (c.len-most.result - (c.loop-turn.turn + 1)) next)) (c.next_after-next.ensures.value ∙ ap (λ (serial : ℕ). next_serving c.args.template.now c.args.role.now serial c.args.ring.now) c.serial.ensures)
    ∙ sym (goes_on c.args.template.now c.args.role.now c.args.ring.now c.args.said.now c.args.asking c.loop-turn.passed c.len-most.result c.loop-turn.turn c.in-Some.key.now c.loop-turn-test.true (sym c.is_passed_over.ensures ∙ c.if-not-is_passed_over.false))
    ∙ ap (λ (next : Option KeyEntry). found_past c.loop-turn.passed c.args.said.now c.args.asking (in_turn c.args.template.now c.args.role.now c.args.ring.now (c.len-most.result - c.loop-turn.turn) next)) (sym (ap option_copied c.in-Some.is))
    ∙ c.loop-turn.invariant
