use Rattle.std.proofs.Common.{◌≡◌, [], drop, map, drop_of_length-le}
use Rattle.symbolic_runs.specs.Answers.{atoms_of}
use Rattle.trace_labels.specs.Said.{said}
use Rattle.trace_runs.proofs.ApartLaws.{read_whole}
use Rattle.trace_runs.proofs.readings.reading_of.Goals as goal

pub returns-clause-read : goal.returns-clause-read
returns-clause-read c =
    let left : drop c.loop-line.line-index c.args.lines.now ≡ [] = drop_of_length-le c.args.lines.now c.loop-line-test.false in
    read_whole (map said c.args.lines.now) (atoms_of c.loop-line.reading) (rw left at c.loop-line.invariant.0)
