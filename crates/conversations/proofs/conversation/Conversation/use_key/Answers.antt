use Rattle.conversations.proofs.StepLemmas.{both_so, fits_key}
use Rattle.conversations.proofs.conversation.Conversation.use_key.Goals as goal

pub returns-in_ok-self-clause-met : goal.returns-in_ok-self-clause-met
returns-in_ok-self-clause-met c = λ s fits.
    fits_key c.args.self.now c.in-Some.begun c.use_key.new.self c.in_ok-self.field-0 c.args.key.now s s.begun (both_so c.args.self.now c.in-Some.begun s c.in-Some.is fits.carries) fits.carries c.in_ok-self.ensures.moves
