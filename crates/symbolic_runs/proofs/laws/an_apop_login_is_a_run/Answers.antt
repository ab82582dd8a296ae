use Rattle.std.proofs.Common.{refl, arith}
use Rattle.symbolic_runs.specs.declared.kind.MacKind.TheVariants.{Apop}
use Rattle.symbolic_runs.proofs.LoginLaws.{mail_is_run}
use Rattle.symbolic_runs.proofs.laws.an_apop_login_is_a_run.Goals as goal

pub returns : goal.returns
returns c login is = record { short = omega arith; by_the_tables = mail_is_run Apop login refl is.first is.second is.names is.head }
