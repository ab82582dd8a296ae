use Rattle.mailboxes.specs.Kept.{reply_bytes}
use Rattle.mailboxes.proofs.DeliveryLemmas.{answered_delivers}
use Rattle.mailboxes.proofs.mailboxes.Mailboxes.push.Goals as goal

pub returns-clause-delivers : goal.returns-clause-delivers
returns-clause-delivers c = λ done tag body spelled h. answered_delivers done c.args.self.now c.push_at.new.self c.args.conn tag body (reply_bytes c.args.reply) c.push_at.ensures.becomes c.push_at.ensures.settled spelled h
