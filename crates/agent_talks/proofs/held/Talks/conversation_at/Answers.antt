use Rattle.std.proofs.Common.{Option, subst, sym, ◌∙◌}
use Rattle.conversations.specs.declared.conversation.Conversation.{Conversation}
use Rattle.agent_history.specs.Conversations.{conv_of}
use Rattle.agent_talks.specs.Speaks.{IsOpenAt}
use Rattle.agent_talks.proofs.SightLemmas.{open_at}
use Rattle.agent_talks.proofs.held.Talks.conversation_at.Goals as goal

pub returns-in-Some : goal.returns-in-Some
returns-in-Some c = λ done h.
    subst (λ (o : Option Conversation). IsOpenAt done (conv_of done c.args.conn c.args.fid) o) (sym c.get.ensures)
    (open_at done c.args.self.now c.args.conn c.args.fid c.in-Some.conv (sym c.in-Some.is ∙ c.conv_at.ensures done h) h)
