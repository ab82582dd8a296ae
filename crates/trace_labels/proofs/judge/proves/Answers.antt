use Rattle.std.proofs.Common.{map}
use Rattle.symbolic_runs.specs.Views.{tree}
use Rattle.trace_labels.proofs.Judging.{derives_by}
use Rattle.trace_labels.proofs.judge.proves.Goals as goal

pub returns-clause-derives : goal.returns-clause-derives
returns-clause-derives c = derives_by (map tree c.args.known.now) c.args.proof.now (tree c.args.term.now) c.ends_in.result c.ends_in.ensures
