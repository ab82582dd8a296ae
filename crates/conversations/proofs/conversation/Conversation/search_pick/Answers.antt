use Rattle.conversations.proofs.StepLemmas.{fits_pick}
use Rattle.conversations.proofs.conversation.Conversation.search_pick.Goals as goal

pub returns-in-Some-clause-met : goal.returns-in-Some-clause-met
returns-in-Some-clause-met c = λ s asking fits wanted.
    fits_pick c.args.self.now c.in-Some.begun c.use_pick.new.self c.use_pick.result c.find_pick-place.result s asking c.args.ring.now c.in-Some.is fits.carries wanted c.find_pick-place.ensures c.use_pick.ensures
