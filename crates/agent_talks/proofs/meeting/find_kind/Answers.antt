use Rattle.std.proofs.Common.{ap}
use Rattle.std.specs.Prelude.{option_copied}
use Rattle.agent_history.specs.Conversations.{talk}
use Rattle.agent_talks.specs.Speaks.{stands}
use Rattle.agent_talks.proofs.AskingLemmas.{no_kind, shown_kind}
use Rattle.agent_talks.proofs.meeting.find_kind.Goals as goal

pub returns-in-Some : goal.returns-in-Some
returns-in-Some c = λ done there h.
    shown_kind (stands done c.args.conv) (talk done c.args.conv) (option_copied c.conversation.result) c.in-Some.conversation.now c.asks.result there (ap option_copied c.in-Some.is) c.asks.ensures (c.conversation.ensures done h)

pub returns-in-None : goal.returns-in-None
returns-in-None c = λ done there h.
    no_kind (stands done c.args.conv) (talk done c.args.conv) (option_copied c.conversation.result) there (ap option_copied c.in-None.is) (c.conversation.ensures done h)
