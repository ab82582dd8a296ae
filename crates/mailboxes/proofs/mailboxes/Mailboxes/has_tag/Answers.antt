use Rattle.std.proofs.Common.{◌∙◌}
use Rattle.mailboxes.proofs.DeliveryLemmas.{tag_waits}
use Rattle.mailboxes.proofs.mailboxes.Mailboxes.has_tag.Goals as goal

pub returns : goal.returns
returns c = λ done live h. c.has_tag_at.ensures ∙ tag_waits done c.args.self.now c.args.conn c.args.tag live h
