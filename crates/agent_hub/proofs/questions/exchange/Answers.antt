use Rattle.std.proofs.Common.{refl}
use Rattle.wire_streams.specs.declared.dialer.Outcome.TheVariants.{Answered}
use Rattle.agent_hub.proofs.MadeLemmas.{made_one}
use Rattle.agent_hub.proofs.questions.exchange.Goals as goal

pub returns-in-Heard-clause-asked : goal.returns-in-Heard-clause-asked
returns-in-Heard-clause-asked g c = record { outcome = Answered c.exchange.new.out; is = refl; made = made_one _ _ _ (rw c.in-Heard.is at c.exchange.ensures.told); counted = rw c.in-Heard.is at c.exchange.ensures.exact }
