use Rattle.mailboxes.proofs.DeliveryLemmas.{hung_delivers}
use Rattle.mailboxes.proofs.mailboxes.Mailboxes.leave.Goals as goal

pub returns-clause-delivers : goal.returns-clause-delivers
returns-clause-delivers c = λ done h. hung_delivers done c.args.self.now c.leave_at.new.self c.args.conn c.leave_at.ensures.becomes c.leave_at.ensures.settled h
