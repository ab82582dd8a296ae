use Rattle.symbolic_runs.proofs.ReadingLaws.{changed_atom}
use Rattle.symbolic_runs.proofs.term_laws.a_reading_changes_one_atom.Goals as goal

pub returns : goal.returns
returns c = changed_atom
