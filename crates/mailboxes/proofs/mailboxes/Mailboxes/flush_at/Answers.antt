use Rattle.std.proofs.Common.{◌≡◌, Some, true, false, refl, sym, ap, ◌∙◌}
use Rattle.std.specs.Prelude.{not, ◌==◌}
use Rattle.mailboxes.specs.Mails as mails
use Rattle.mailboxes.specs.Rests.{covers, has_settled}
use Rattle.mailboxes.proofs.RestLemmas.{left_rest, rested, rests_put}
use Rattle.mailboxes.proofs.mailboxes.Mailboxes.flush_at.Goals as goal

pub invariant_of-self : goal.invariant_of-self
invariant_of-self c =
    let s = c.args.self.now in
    let found = c.in-Some.ensures.value in
    let mail = c.in-Some.mailbox.now in
    let puts = ((c.get_mut.follows.holds c.flush.new.self).3 (rw (← found) refl)).0 in
    record {
      rests = rests_put s.unswept s.unswept s.boxes (c.get_mut.follows.lender c.flush.new.self) c.args.conn c.flush.new.self puts
          (λ off. ap (λ (m : mails.Mail). has_settled m.waits) c.flush.ensures ∙ left_rest (λ wait. not (wait.tag == c.args.tag)) mail.waits (rested s.unswept s.boxes c.args.conn mail found s.rests off)) (λ q off. off) s.rests;
    }
