use Rattle.clean_runs.proofs.RemovalLaw.{removal_is_legal}
use Rattle.clean_runs.proofs.example_laws.a_login_and_a_removal_are_legal_and_clean.Goals as goal

pub returns : goal.returns
returns c = removal_is_legal
