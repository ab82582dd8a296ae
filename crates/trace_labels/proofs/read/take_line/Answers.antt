use Rattle.std.proofs.Common.{ap, ◌∙◌, map, refl, Err}
use Rattle.trace_labels.specs.Said.{said}
use Rattle.trace_labels.proofs.ReadLaws.{no_line}
use Rattle.trace_labels.proofs.read.take_line.Goals as goal

pub returns-in-Err-BadForm-clause-bad : goal.returns-in-Err-BadForm-clause-bad
returns-in-Err-BadForm-clause-bad c = λ e. (
  no_line (map said c.args.lines.now) c.args.text.now (c.parse_label_line.ensures.bad (c.in-Err-BadForm.is ∙ ap Err c.in-Err-BadForm.field-0-is)),
  refl,
)
