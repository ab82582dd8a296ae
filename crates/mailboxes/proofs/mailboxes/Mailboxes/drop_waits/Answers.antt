use Rattle.mailboxes.proofs.DeliveryLemmas.{versioned_delivers}
use Rattle.mailboxes.proofs.mailboxes.Mailboxes.drop_waits.Goals as goal

pub returns-clause-delivers : goal.returns-clause-delivers
returns-clause-delivers c = λ done msize h. versioned_delivers done c.args.self.now c.drop_waits_at.new.self c.args.conn msize c.drop_waits_at.ensures.becomes c.drop_waits_at.ensures.settled h
