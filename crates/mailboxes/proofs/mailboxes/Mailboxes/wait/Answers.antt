use Rattle.mailboxes.proofs.DeliveryLemmas.{awaited_delivers}
use Rattle.mailboxes.proofs.mailboxes.Mailboxes.wait.Goals as goal

pub returns-clause-delivers : goal.returns-clause-delivers
returns-clause-delivers c = λ done h. awaited_delivers done c.args.self.now c.wait_at.new.self c.args.conn c.args.read.tag c.args.read.fid c.args.read.count c.wait_at.ensures.becomes c.wait_at.ensures.settled h
