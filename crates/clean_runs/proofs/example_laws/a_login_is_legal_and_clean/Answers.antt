use Rattle.clean_runs.proofs.LegalLogin.{login_is_legal}
use Rattle.clean_runs.proofs.example_laws.a_login_is_legal_and_clean.Goals as goal

pub returns : goal.returns
returns c = login_is_legal
