use Rattle.std.proofs.Common.{refl, arith}
use Rattle.symbolic_runs.proofs.AttackLaws.{exposed_is_run, exposed_under, nobody_answered}
use Rattle.symbolic_runs.specs.Attacks.{exposed_acceptance}
use Rattle.symbolic_runs.proofs.runs.an_exposed_grant_deceives_a_client.Goals as goal

pub returns-clause-run : goal.returns-clause-run
returns-clause-run c = record { short = omega arith; by_the_tables = exposed_is_run }

pub returns-clause-true_client : goal.returns-clause-true_client
returns-clause-true_client c = refl

pub returns-clause-under : goal.returns-clause-under
returns-clause-under c = exposed_under

pub returns-clause-exposed : goal.returns-clause-exposed
returns-clause-exposed c = refl

pub returns-clause-unanswered : goal.returns-clause-unanswered
returns-clause-unanswered c = nobody_answered exposed_acceptance
