use Rattle.mailboxes.specs.Kept.{reply_bytes}
use Rattle.mailboxes.proofs.DeliveryLemmas.{settled_delivers}
use Rattle.mailboxes.proofs.mailboxes.Mailboxes.settle.Goals as goal

pub returns-clause-delivers : goal.returns-clause-delivers
returns-clause-delivers c = λ done body live spelled h. settled_delivers done c.args.self.now c.settle_at.new.self c.args.conn c.args.tag body (reply_bytes c.args.reply) live c.settle_at.ensures.becomes c.settle_at.ensures.settled spelled h
