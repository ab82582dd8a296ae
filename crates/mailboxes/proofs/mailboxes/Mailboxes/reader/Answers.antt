use Rattle.std.proofs.Common.{sym, ◌∙◌}
use Rattle.mailboxes.proofs.DeliveryLemmas.{reader_waits}
use Rattle.mailboxes.proofs.mailboxes.Mailboxes.reader.Goals as goal

pub returns : goal.returns
returns c = λ done live h. reader_waits done c.args.self.now c.args.conn c.args.fid live h ∙ sym c.reader_at.ensures
