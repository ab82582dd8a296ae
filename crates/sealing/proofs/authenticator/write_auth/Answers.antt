use Rattle.std.proofs.Common.{refl, rules}
use Rattle.sealing.specs.Authenticator.{authenticator_text}
use Rattle.sealing.proofs.AuthenticatorLaws.{authenticator_written}
use Rattle.sealing.proofs.authenticator.write_auth.Goals as goal

text : goal.returns-clause-value
unfolding authenticator_text
text c = rw (c.finish.ensures, c.put-3.ensures.value, c.put-2.ensures.value, c.put.ensures.value, c.new-out.ensures, c.to_le_bytes.ensures) refl

pub returns-clause-value : goal.returns-clause-value
returns-clause-value c = text c

pub returns-clause-read : goal.returns-clause-read
returns-clause-read c = rw (text c) (authenticator_written c.args.a.now (search rules) (search rules))
