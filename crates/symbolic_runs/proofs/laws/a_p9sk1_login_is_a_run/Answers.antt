use Rattle.std.proofs.Common.{arith}
use Rattle.symbolic_runs.proofs.LoginLaws.{p9sk1_is_run}
use Rattle.symbolic_runs.proofs.laws.a_p9sk1_login_is_a_run.Goals as goal

pub returns : goal.returns
returns c login is = record { short = omega arith; by_the_tables = p9sk1_is_run login is.offered is.asked is.names }
