use Rattle.std.proofs.Common.{sym}
use Rattle.agent_talks.proofs.ReplyLemmas.{replier_stands}
use Rattle.agent_talks.proofs.standing.Conversations.asker.Goals as goal

pub returns-clause-stands : goal.returns-clause-stands
returns-clause-stands c = replier_stands c.args.self.now c.args.kind c.args.tag c.asker.result (λ done h. c.asker.ensures done h.tells.files)
