use Rattle.symbolic_runs.proofs.OnceLaws.{in_turn}
use Rattle.symbolic_runs.proofs.laws.each_move_is_in_its_turn.Goals as goal

pub returns : goal.returns
returns c s run r past conv move at = in_turn s run past conv move r.by_the_tables at
