use Rattle.std.proofs.Common.{◌≡◌, ap, sym, ◌∙◌, Err, subst}
use Rattle.std.proofs.lemmas.Result.{err_from_is_err_and}
use Rattle.trace_labels.specs.declared.unread.Unread.TheVariants.{BadForm}
use Rattle.trace_labels.specs.Steps.{IsProofText}
use Rattle.trace_labels.proofs.Parts.{same_err}
use Rattle.trace_labels.proofs.StepLaws.{all_read, none_reads, one_read, over_is, step_shorter}
use Rattle.trace_labels.proofs.steps.read_proof.Goals as goal

pub returns-in_err-read_step-clause-bad : goal.returns-in_err-read_step-clause-bad
returns-in_err-read_step-clause-bad c = λ e.
    let p = err_from_is_err_and c.from_residual.result c.from_residual.ensures.1 in
    let fault : c.in_err-read_step.field-0.0 ≡ BadForm = same_err _ _ (ap Err (sym p.2) ∙ sym p.1 ∙ e) in
    none_reads c.args.words.now c.loop-steps.words c.loop-steps.steps c.loop-steps.invariant (c.read_step.ensures.bad (c.in_err-read_step.was ∙ ap Err fault))

pub returns-then-is_over-clause-ok : goal.returns-then-is_over-clause-ok
returns-then-is_over-clause-ok c = subst (λ steps. IsProofText steps c.args.words.now) (sym c.in_ok-push.ensures.ok)
    (all_read c.args.words.now c.loop-steps.words c.read_step.new.words c.loop-steps.steps c.in_ok-read_step.field-0 c.loop-steps.invariant c.in_ok-read_step.ensures.ok (over_is c.read_step.new.words (sym c.if-is_over.ensures)))

pub loop-steps-smaller : goal.loop-steps-smaller
loop-steps-smaller c = step_shorter c.loop-steps.words c.read_step.new.words c.take.new.self c.in_ok-read_step.field-0 c.in_ok-take.field-0.now c.in_ok-read_step.ensures.ok c.in_ok-take.ensures.ok

pub loop-steps-preserved : goal.loop-steps-preserved
loop-steps-preserved c = one_read c.args.words.now c.loop-steps.words c.read_step.new.words c.take.new.self c.loop-steps.steps c.push.new.self c.in_ok-read_step.field-0 c.in_ok-take.field-0.now c.loop-steps.invariant c.in_ok-read_step.ensures.ok c.in_ok-take.ensures.ok c.in_ok-push.ensures.ok
