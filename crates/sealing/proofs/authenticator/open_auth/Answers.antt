use Rattle.std.proofs.Common.{◌∙◌, ap}
use Rattle.sealing.specs.Authenticator.{authenticator_of}
use Rattle.sealing.proofs.AuthenticatorLaws.{authenticator_layout}
use Rattle.sealing.proofs.authenticator.open_auth.Goals as goal

pub returns-clause-value : goal.returns-clause-value
returns-clause-value c = c.read_auth.ensures ∙ ap authenticator_of c.open_seal.ensures.value

pub returns-clause-layout : goal.returns-clause-layout
returns-clause-layout c = λ a. rw (returns-clause-value c) (authenticator_layout _ a)
