use Rattle.std.proofs.Common.{arith}
use Rattle.symbolic_runs.proofs.ExampleLaws.{reversed_is_run, reversed_match}
use Rattle.symbolic_runs.proofs.runs.a_p9sk1_login_satisfies_a_mail_server.Goals as goal

pub returns-clause-run : goal.returns-clause-run
returns-clause-run c = record { short = omega arith; by_the_tables = reversed_is_run }

pub returns-clause-matched : goal.returns-clause-matched
returns-clause-matched c = reversed_match
