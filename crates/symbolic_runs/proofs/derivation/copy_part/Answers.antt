use Rattle.std.proofs.Common.{◌≡◌, subst, IfOk, option_map}
use Rattle.symbolic_runs.specs.Views.{tree}
use Rattle.symbolic_runs.proofs.ConcludeLemmas.{part_of_terms}
use Rattle.symbolic_runs.proofs.derivation.copy_part.Goals as goal

pub returns-in-Cat : goal.returns-in-Cat
returns-in-Cat c = subst (λ o. IfOk c.copy_at.result (λ found. option_map tree found ≡ o)) (part_of_terms c.args.whole.now c.in-Cat.pieces c.as_slice.result.now c.args.index c.in-Cat.is c.as_slice.ensures) c.copy_at.ensures
