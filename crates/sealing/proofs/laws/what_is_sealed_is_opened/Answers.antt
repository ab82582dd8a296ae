use Rattle.sealing.proofs.SealedLaws.{authenticator_opened, ticket_opened}
use Rattle.sealing.proofs.laws.what_is_sealed_is_opened.Goals as goal

pub returns-clause-tickets : goal.returns-clause-tickets
returns-clause-tickets c = ticket_opened

pub returns-clause-authenticators : goal.returns-clause-authenticators
returns-clause-authenticators c = authenticator_opened
