use Rattle.std.proofs.Common.{arith}
use Rattle.symbolic_runs.proofs.ExampleLaws.{unknown_is_run}
use Rattle.symbolic_runs.proofs.runs.a_key_is_made_up.Goals as goal

pub returns : goal.returns
returns c = record { short = omega arith; by_the_tables = unknown_is_run }
