use Rattle.symbolic_runs.proofs.OnceLaws.{turns_differ}
use Rattle.symbolic_runs.proofs.laws.each_turn_is_taken_once.Goals as goal

pub returns : goal.returns
returns c = turns_differ
