use Rattle.std.proofs.Common.{ℕ, ◌%◌, List, ap, ◌∙◌, arith}
use Rattle.des_block.specs.Bits.{bits_of}
use Rattle.des_block.specs.Schedule.{key_schedule}
use Rattle.sealing.specs.Sealing.{opened}
use Rattle.sealing.proofs.SealLaws.{sealed_undone}
use Rattle.sealing.proofs.SealLemmas.{change_more, sealed_with_tail, sealed_without_tail}
use Rattle.sealing.proofs.sealing.seal.Goals as goal

pub loop-i-preserved : goal.loop-i-preserved
loop-i-preserved c = change_more _ _ _ _ c.loop-i.i c.loop-i.invariant c.encrypt_at.ensures

pub returns-then-last-ne0-clause-value : goal.returns-then-last-ne0-clause-value
returns-then-last-ne0-clause-value c =
    sealed_with_tail c.args.key.now.0 c.args.text.now c.loop-i.text _ c.new-schedule.result c.loop-i.i _
    (c.new-schedule.ensures.value ∙ ap (λ (key : List ℕ). key_schedule (bits_of key)) c.expand56.ensures.value)
    (omega arith) (omega arith)
    (λ e. c.if-last-ne0.true (ap (λ (n : ℕ). n % 7) c.last_index-last.ensures.value ∙ e))
    c.loop-i.invariant c.encrypt_at-then-last-ne0.ensures

pub returns-then-last-ne0-clause-undone : goal.returns-then-last-ne0-clause-undone
returns-then-last-ne0-clause-undone c =
    ap (λ (bytes : List ℕ). opened c.args.key.now.0 bytes) (returns-then-last-ne0-clause-value c)
    ∙ sealed_undone c.args.key.now.0 c.args.text.now (omega arith) c.last_index-last.ensures.bytes

pub returns-else-last-ne0-clause-value : goal.returns-else-last-ne0-clause-value
returns-else-last-ne0-clause-value c =
    sealed_without_tail c.args.key.now.0 c.args.text.now c.loop-i.text c.new-schedule.result c.loop-i.i
    (c.new-schedule.ensures.value ∙ ap (λ (key : List ℕ). key_schedule (bits_of key)) c.expand56.ensures.value)
    (omega arith) (omega arith) c.loop-i.invariant

pub returns-else-last-ne0-clause-undone : goal.returns-else-last-ne0-clause-undone
returns-else-last-ne0-clause-undone c =
    ap (λ (bytes : List ℕ). opened c.args.key.now.0 bytes) (returns-else-last-ne0-clause-value c)
    ∙ sealed_undone c.args.key.now.0 c.args.text.now (omega arith) c.last_index-last.ensures.bytes
