use Rattle.mailboxes.proofs.DeliveryLemmas.{flushed_delivers}
use Rattle.mailboxes.proofs.mailboxes.Mailboxes.flush.Goals as goal

pub returns-clause-delivers : goal.returns-clause-delivers
returns-clause-delivers c = λ done h. flushed_delivers done c.args.self.now c.flush_at.new.self c.args.conn c.args.tag c.flush_at.ensures.becomes c.flush_at.ensures.settled h
