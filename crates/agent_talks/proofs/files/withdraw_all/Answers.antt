use Rattle.std.proofs.Common.{◌+◌, drop, subst, sym, ◌∙◌}
use Rattle.agent_talks.specs.declared.speaker.Speaker.{Speaker}
use Rattle.agent_talks.specs.declared.files.LineFiles.{LineFiles}
use Rattle.agent_talks.proofs.WithdrawLemmas.{Withdrawing, one_leaves, one_stays}
use Rattle.agent_talks.proofs.files.withdraw_all.Goals.{then-leaves, else-leaves}
use Rattle.agent_talks.proofs.files.withdraw_all.Goals as goal

pub loop-speaker-preserved : goal.loop-speaker-preserved
loop-speaker-preserved c = λ done h.
    let nobody : Speaker = record { conv = 0; conn = 0; fid = 0 } in
    let at = c.loop-speaker.speaker-index in
    let before = c.loop-speaker.invariant done h in
    elim c.if-leaves.branch [
      | then-leaves w ↦
          subst (λ (f : LineFiles). Withdrawing c.args.leaving (drop (at + 1) c.args.speakers.now) c.args.speakers.now done f) (sym w.files-is)
          (one_leaves c.args.leaving c.args.speakers.now at nobody done c.loop-speaker.files w.withdraw.new.self w.withdraw-then-leaves.new.self c.loop-speaker-test.true (sym c.leaves.ensures ∙ w.if-leaves.true) w.withdraw.ensures w.withdraw-then-leaves.ensures before)
      | else-leaves w ↦
          subst (λ (f : LineFiles). Withdrawing c.args.leaving (drop (at + 1) c.args.speakers.now) c.args.speakers.now done f) (sym w.files-is)
          (one_stays c.args.leaving c.args.speakers.now at nobody done c.loop-speaker.files c.loop-speaker-test.true (sym c.leaves.ensures ∙ w.if-leaves.false) before)
    ]
