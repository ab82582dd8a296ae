use Rattle.std.proofs.Common.{false, refl}
use Rattle.conversations.proofs.PerformLemmas.{unmakes}
use Rattle.conversations.proofs.conversation.Conversation.unmake_request.Goals as goal

pub returns-clause-made : goal.returns-clause-made
returns-clause-made c =
    unmakes c.args.self.now (record { begun = c.take_back.new.begun; phase = c.args.self.now.phase; starting = false; said = c.args.self.now.said })
    (record { taken = c.take_back.ensures.taken; back = c.take_back.ensures.back; starting = refl; said = refl })
