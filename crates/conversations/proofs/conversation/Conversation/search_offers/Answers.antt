use Rattle.conversations.proofs.StepLemmas.{fits_offers}
use Rattle.conversations.proofs.conversation.Conversation.search_offers.Goals as goal

pub returns-in_ok-list-clause-met : goal.returns-in_ok-list-clause-met
returns-in_ok-list-clause-met c = λ s asking fits wanted.
    fits_offers c.args.self.now c.in-Some.begun c.use_offers.new.self c.use_offers.result c.in_ok-list.list s asking c.args.ring.now c.in-Some.is fits.carries wanted c.in_ok-list.ensures c.use_offers.ensures
