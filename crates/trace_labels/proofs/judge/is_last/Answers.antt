use Rattle.std.proofs.Common.{ap, ◌∙◌, false}
use Rattle.symbolic_runs.specs.Views.{tree}
use Rattle.trace_labels.specs.Judged.{last_is}
use Rattle.trace_labels.proofs.Judging.{same_list}
use Rattle.trace_labels.proofs.judge.is_last.Goals as goal

pub returns : goal.returns
returns c = λ list e. c.is_last_of.ensures ∙ ap (λ xs. last_is false xs (tree c.args.term.now)) (same_list _ list (c.as_slice.ensures ∙ e))
