use Rattle.mailboxes.proofs.DeliveryLemmas.{taken_delivers}
use Rattle.mailboxes.proofs.mailboxes.Mailboxes.pop.Goals as goal

pub returns-clause-delivers : goal.returns-clause-delivers
returns-clause-delivers c = λ done h. taken_delivers done c.args.self.now c.pop_at.new.self c.args.conn c.pop_at.ensures.becomes c.pop_at.ensures.settled h
