use Rattle.std.proofs.Common.{◌≡◌, ◌%◌, ◌==◌, ◌||◌, true, nat_le, ◌∙◌, le-leb, eq-eqb}
use Rattle.std.proofs.lemmas.Bool.{or_left, or_right}
use Rattle.sealing.proofs.PasswordLemmas.{begun, window_step, ended_by_last, ended}
use Rattle.sealing.proofs.passwords.pass_to_key.Goals as goal
use Rattle.sealing.proofs.passwords.pass_to_key.Goals.{else-count-gt8-via-then-count-gt8+else-count-ne0, else-count-gt8-via-else-count-gt8}

pub loop-k-init : goal.loop-k-init
loop-k-init c = begun c.args.password.now _ _ c.min-count.result c.min-count.ensures c.fill_buffer-buffer.ensures c.make_key-key.ensures

pub loop-k-preserved : goal.loop-k-preserved
loop-k-preserved c =
    window_step c.loop-k.k _ _ c.loop-k.buffer c.next_key-key.new.buffer c.loop-k.key.0 c.next_key-key.result.0 c.loop-k-test.true c.next_key-key.ensures.window c.next_key-key.ensures.key
    ∙ c.loop-k.invariant

pub returns-then-count-ne0 : goal.returns-then-count-ne0
returns-then-count-ne0 c =
    ended_by_last c.min-count.result c.loop-k.k c.loop-k.buffer _ c.loop-k.key.0 _ _ c.loop-k-test.false c.if-count-gt8.true c.if-count-ne0.true
    c.next_key-key-then-count-ne0.ensures.window c.next_key-key-then-count-ne0.ensures.key c.loop-k.invariant

pub returns-else-count-gt8 : goal.returns-else-count-gt8
returns-else-count-gt8 c =
    let none : (nat_le c.min-count.result 8 || (c.min-count.result % 8 == 0)) ≡ true =
    elim c.else-count-gt8.branch [
      | else-count-gt8-via-then-count-gt8+else-count-ne0 w ↦ or_right _ _ (eq-eqb _ _ w.if-count-ne0.false)
      | else-count-gt8-via-else-count-gt8 w ↦ or_left _ _ (le-leb _ _ w.if-count-gt8.false)
    ] in
    ended c.min-count.result c.loop-k.k c.loop-k.buffer c.loop-k.key.0 _ c.loop-k-test.false none c.loop-k.invariant
