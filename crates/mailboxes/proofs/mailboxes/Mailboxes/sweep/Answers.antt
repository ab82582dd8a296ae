use Rattle.mailboxes.proofs.DeliveryLemmas.{swept_delivers, unswept_delivers}
use Rattle.std.proofs.Common.{refl, sym, ◌∙◌}
use Rattle.mailboxes.proofs.mailboxes.Mailboxes.sweep.Goals as goal

pub returns-then-self-clause-delivers : goal.returns-then-self-clause-delivers
returns-then-self-clause-delivers c = λ done h. swept_delivers done c.args.self.now _ (sym h.settled ∙ c.if-self.true) c.sweep_boxes.ensures.mails refl h

pub returns-else-self-clause-delivers : goal.returns-else-self-clause-delivers
returns-else-self-clause-delivers c = λ done h. unswept_delivers done c.args.self.now (sym h.settled ∙ c.if-self.false) h
