use Rattle.wire_histories.proofs.ExampleLaws.{mail_legal}
use Rattle.wire_histories.proofs.laws.a_mail_client_has_a_legal_history.Goals as goal

pub returns : goal.returns
returns c = mail_legal
