use Rattle.clean_runs.proofs.LegalMail.{mail_login_is_legal}
use Rattle.clean_runs.proofs.example_laws.a_mail_login_is_legal_and_clean.Goals as goal

pub returns : goal.returns
returns c = mail_login_is_legal
