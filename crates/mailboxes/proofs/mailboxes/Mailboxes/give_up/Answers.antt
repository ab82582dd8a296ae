use Rattle.mailboxes.proofs.DeliveryLemmas.{clunked_delivers}
use Rattle.mailboxes.proofs.mailboxes.Mailboxes.give_up.Goals as goal

pub returns-clause-delivers : goal.returns-clause-delivers
returns-clause-delivers c = λ done live h. clunked_delivers done c.args.self.now c.give_up_at.new.self c.args.conn c.args.fid live c.give_up_at.ensures.becomes c.give_up_at.ensures.settled h
