use Rattle.std.proofs.Common.{◌≡◌, [], sym, ◌∙◌, true, false, drop, drop_of_length-le}
use Rattle.symbolic_runs.specs.Answers.{atoms_of}
use Rattle.trace_runs.specs.Words.{read_in_order}
use Rattle.trace_runs.proofs.WordLaws.{decides_words, word_fails}
use Rattle.trace_runs.proofs.words.reads_words.Goals as goal

pub returns-then-not-reads_step : goal.returns-then-not-reads_step
returns-then-not-reads_step c =
    let atoms = atoms_of c.args.reading.now in
    decides_words atoms c.args.steps.now false
    (word_fails atoms c.args.steps.now c.loop-step.step-index c.loop-step.before.starts c.loop-step.before.requests c.step-item.result (read_in_order atoms 0 0 c.args.steps.now) c.loop-step-test.true c.step-item.is
    (sym c.reads_step.ensures ∙ c.if-not-reads_step.true) c.loop-step.invariant.0)

pub returns : goal.returns
returns c =
    let left : drop c.loop-step.step-index c.args.steps.now ≡ [] = drop_of_length-le c.args.steps.now c.loop-step-test.false in
    decides_words (atoms_of c.args.reading.now) c.args.steps.now true (rw left at c.loop-step.invariant.0)
