use Rattle.std.proofs.Common.{◌∙◌}
use Rattle.mailboxes.proofs.DeliveryLemmas.{fid_waits}
use Rattle.mailboxes.proofs.mailboxes.Mailboxes.has_fid.Goals as goal

pub returns : goal.returns
returns c = λ done live h. c.has_fid_at.ensures ∙ fid_waits done c.args.self.now c.args.conn c.args.fid live h
