use Rattle.std.proofs.Common.{arith}
use Rattle.symbolic_runs.proofs.ExampleLaws.{shared_is_run, first_match, second_match}
use Rattle.symbolic_runs.proofs.runs.two_clients_hold_one_ticket.Goals as goal

pub returns-clause-run : goal.returns-clause-run
returns-clause-run c = record { short = omega arith; by_the_tables = shared_is_run }

pub returns-clause-first : goal.returns-clause-first
returns-clause-first c = first_match

pub returns-clause-second : goal.returns-clause-second
returns-clause-second c = second_match
