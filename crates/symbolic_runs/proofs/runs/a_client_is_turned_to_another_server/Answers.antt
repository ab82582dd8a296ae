use Rattle.std.proofs.Common.{arith}
use Rattle.symbolic_runs.proofs.AttackLaws.{turned_is_run}
use Rattle.symbolic_runs.proofs.runs.a_client_is_turned_to_another_server.Goals as goal

pub returns : goal.returns
returns c = record { short = omega arith; by_the_tables = turned_is_run }
