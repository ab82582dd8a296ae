use Rattle.std.proofs.Common.{map}
use Rattle.symbolic_runs.specs.Views.{tree}
use Rattle.symbolic_runs.proofs.ConcludeLemmas.{proved}
use Rattle.symbolic_runs.proofs.derivation.check_derivation.Goals as goal

pub returns-clause-derives : goal.returns-clause-derives
returns-clause-derives c = λ e. proved (map tree c.args.known.now) c.args.proof.now c.in_ok-ends.ends c.is_some.result c.in_ok-ends.ensures c.is_some.ensures (cc)
