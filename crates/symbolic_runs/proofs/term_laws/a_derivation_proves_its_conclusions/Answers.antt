use Rattle.symbolic_runs.proofs.DerivationLaws.{conclusions_derive}
use Rattle.symbolic_runs.proofs.term_laws.a_derivation_proves_its_conclusions.Goals as goal

pub returns : goal.returns
returns c = conclusions_derive
