use Rattle.std.proofs.Common.{arith}
use Rattle.symbolic_runs.proofs.AttackLaws.{anybody_is_run}
use Rattle.symbolic_runs.proofs.runs.a_mail_client_answers_anybody.Goals as goal

pub returns : goal.returns
returns c = record { short = omega arith; by_the_tables = anybody_is_run }
