use Rattle.std.proofs.Common.{arith}
use Rattle.symbolic_runs.proofs.AttackLaws.{betrayed_server_is_run, under_none}
use Rattle.symbolic_runs.proofs.runs.a_betrayed_server_accepts_without_a_grant.Goals as goal

pub returns-clause-run : goal.returns-clause-run
returns-clause-run c = record { short = omega arith; by_the_tables = betrayed_server_is_run }

pub returns-clause-under_none : goal.returns-clause-under_none
returns-clause-under_none c = under_none
