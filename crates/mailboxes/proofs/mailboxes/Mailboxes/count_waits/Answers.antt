use Rattle.std.proofs.Common.{◌∙◌}
use Rattle.mailboxes.proofs.DeliveryLemmas.{waits_counted}
use Rattle.mailboxes.proofs.mailboxes.Mailboxes.count_waits.Goals as goal

pub returns : goal.returns
returns c = λ done live h. c.count_waits_at.ensures ∙ waits_counted done c.args.self.now c.args.conn live h
