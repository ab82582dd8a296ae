use Rattle.std.proofs.Common.{arith}
use Rattle.symbolic_runs.proofs.ExampleLaws.{crossed_is_run, crossed_match}
use Rattle.symbolic_runs.proofs.runs.a_mail_login_satisfies_a_p9sk1_server.Goals as goal

pub returns-clause-run : goal.returns-clause-run
returns-clause-run c = record { short = omega arith; by_the_tables = crossed_is_run }

pub returns-clause-matched : goal.returns-clause-matched
returns-clause-matched c = crossed_match
