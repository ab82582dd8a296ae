use Rattle.clean_runs.proofs.LoginLaw.{login_is_clean}
use Rattle.clean_runs.proofs.example_laws.a_login_is_clean.Goals as goal

pub returns : goal.returns
returns c = login_is_clean
