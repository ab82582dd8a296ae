use Rattle.std.proofs.Common.{arith}
use Rattle.symbolic_runs.proofs.LoginLaws.{p9any_is_run}
use Rattle.symbolic_runs.proofs.laws.a_p9any_login_is_a_run.Goals as goal

pub returns : goal.returns
returns c login is offers heard choice taken = record { short = omega arith; by_the_tables = p9any_is_run login offers heard choice taken is.offered is.asked is.names }
