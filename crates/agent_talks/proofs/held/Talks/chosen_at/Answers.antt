use Rattle.std.proofs.Common.{ap, Option, subst}
use Rattle.std.specs.Prelude.{option_copied}
use Rattle.conversations.specs.declared.conversation.Conversation.{Conversation}
use Rattle.agent_history.specs.Conversations.{conv_of}
use Rattle.agent_talks.specs.Speaks.{IsOpenAt}
use Rattle.agent_talks.proofs.SightLemmas.{key_in, key_none}
use Rattle.agent_talks.proofs.held.Talks.chosen_at.Goals as goal

pub returns-in-Some : goal.returns-in-Some
returns-in-Some c = λ done h.
    key_in done (conv_of done c.args.conn c.args.fid) c.in-Some.conversation.now (option_copied c.chosen.result) c.chosen.ensures
    (subst (λ (o : Option Conversation). IsOpenAt done (conv_of done c.args.conn c.args.fid) o) (ap option_copied c.in-Some.is) (c.conversation_at.ensures done h))

pub returns-in-None : goal.returns-in-None
returns-in-None c = λ done h.
    key_none done (conv_of done c.args.conn c.args.fid) (subst (λ (o : Option Conversation). IsOpenAt done (conv_of done c.args.conn c.args.fid) o) (ap option_copied c.in-None.is) (c.conversation_at.ensures done h))
