use Rattle.std.proofs.Common.{Ok, ap, ◌∙◌}
use Rattle.trace_labels.proofs.ReadLaws.{line_more}
use Rattle.trace_labels.proofs.read.read_lines.Goals as goal

pub loop-left-preserved : goal.loop-left-preserved
loop-left-preserved c =
    let taken = c.take_line.ensures.good (c.in_ok-take_line.was ∙ ap Ok c.if-not-branch.false) in
    line_more c.args.text.now c.loop-left.left.now c.cut_first.result.1.now c.cut_first.result.0.now c.loop-left.number c.loop-left.lines c.take_line.new.lines taken.0 c.loop-left.invariant c.cut_first.ensures.parts c.cut_first.ensures.shorter taken.1 taken.2 taken.3
