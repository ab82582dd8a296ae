use Rattle.std.proofs.Common.{◌≡◌, ℕ, ◌-◌, ◌/◌, ◌%◌, List, length, reverse, sym, ap, ◌∙◌, arith}
use Rattle.std.specs.List.{fold}
use Rattle.des_block.specs.Bits.{bits_of}
use Rattle.des_block.specs.Schedule.{deciphered_with, key_schedule}
use Rattle.sealing.specs.Sealing.{changed_at, sealed}
use Rattle.sealing.proofs.SealLaws.{opened_undone}
use Rattle.sealing.proofs.SealLemmas.{change_less, opened_with_tail, opened_without_tail, whole_starts}
use Rattle.sealing.proofs.sealing.open_seal.Goals as goal
use Rattle.sealing.proofs.sealing.open_seal.Goals.{then-last-ne0, else-last-ne0}

pub loop-i-preserved : goal.loop-i-preserved
loop-i-preserved c =
    ap (λ (bytes : List ℕ). fold (changed_at (deciphered_with c.new-schedule.result)) bytes (reverse (whole_starts (c.loop-i.i - 1)))) c.decrypt_at-in-loop-i.ensures
    ∙ sym (change_less (deciphered_with c.new-schedule.result) c.loop-i.text c.loop-i.i (c.loop-i.i - 1) (omega arith))
    ∙ c.loop-i.invariant

pub returns-clause-value : goal.returns-clause-value
returns-clause-value c =
    let made = c.new-schedule.ensures.value ∙ ap (λ (key : List ℕ). key_schedule (bits_of key)) c.expand56.ensures.value in
    let none_left : c.loop-i.i ≡ 0 = omega arith in
    let same_count : c.last_index-last.result / 7 ≡ (length c.args.text.now - 1) / 7 = omega arith in
    sym (ap (λ (k : ℕ). fold (changed_at (deciphered_with c.new-schedule.result)) c.loop-i.text (reverse (whole_starts k))) none_left)
    ∙ c.loop-i.invariant
    ∙ ap (λ (k : ℕ). fold (changed_at (deciphered_with c.new-schedule.result)) c.if-last-ne0.text (reverse (whole_starts k))) same_count
    ∙ elim c.if-last-ne0.branch [
      | then-last-ne0 w ↦
          opened_with_tail c.args.key.now.0 c.args.text.now c.if-last-ne0.text c.new-schedule.result (c.last_index-last.result - 7) made (omega arith)
          (λ e. w.if-last-ne0.true (ap (λ (n : ℕ). n % 7) c.last_index-last.ensures.value ∙ e))
          (w.text-is ∙ w.decrypt_at.ensures)
      | else-last-ne0 w ↦ opened_without_tail c.args.key.now.0 c.args.text.now c.if-last-ne0.text c.new-schedule.result made (omega (arith, w.if-last-ne0.false)) w.text-is
    ]

pub returns-clause-undone : goal.returns-clause-undone
returns-clause-undone c =
    ap (λ (bytes : List ℕ). sealed c.args.key.now.0 bytes) (returns-clause-value c)
    ∙ opened_undone c.args.key.now.0 c.args.text.now (omega arith) c.last_index-last.ensures.bytes
