use Rattle.std.proofs.Common.{◌≡◌, [], sym, ◌∙◌, true, false, drop, map, drop_of_length-le}
use Rattle.trace_labels.specs.Said.{said}
use Rattle.trace_runs.specs.Readings.{give_sevens}
use Rattle.trace_runs.proofs.ApartLaws.{decides_sevens, not_seven}
use Rattle.trace_runs.proofs.readings.gives_sevens.Goals as goal

pub returns-then-not-gives_seven : goal.returns-then-not-gives_seven
returns-then-not-gives_seven c =
    decides_sevens (map said c.args.lines.now) false
    (not_seven c.args.lines.now c.loop-line.line-index c.line-item.result (give_sevens (map said c.args.lines.now)) c.loop-line-test.true c.line-item.is
    (sym c.gives_seven.ensures ∙ c.if-not-gives_seven.true) c.loop-line.invariant)

pub returns : goal.returns
returns c =
    let left : drop c.loop-line.line-index c.args.lines.now ≡ [] = drop_of_length-le c.args.lines.now c.loop-line-test.false in
    decides_sevens (map said c.args.lines.now) true (rw left at c.loop-line.invariant)
