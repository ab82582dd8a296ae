use Rattle.std.proofs.Common.{arith}
use Rattle.symbolic_runs.proofs.ExampleLaws.{refused_is_run}
use Rattle.symbolic_runs.proofs.runs.the_authentication_server_refuses.Goals as goal

pub returns : goal.returns
returns c = record { short = omega arith; by_the_tables = refused_is_run }
