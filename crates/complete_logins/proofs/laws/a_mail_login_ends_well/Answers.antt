use Rattle.complete_logins.proofs.MailLaws.{mail_login_ends}
use Rattle.complete_logins.proofs.laws.a_mail_login_ends_well.Goals as goal

pub returns : goal.returns
returns c = mail_login_ends
