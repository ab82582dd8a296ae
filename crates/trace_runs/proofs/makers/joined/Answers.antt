use Rattle.symbolic_runs.proofs.TreeLemmas.{tree-joined}
use Rattle.trace_runs.proofs.makers.joined.Goals as goal

pub returns : goal.returns
returns c = tree-joined c.args.list
