use Rattle.std.proofs.Common.{◌≡◌, Some, true, false, refl, sym, ap, ◌∙◌}
use Rattle.std.specs.Prelude.{not, ◌==◌}
use Rattle.mailboxes.specs.Mails as mails
use Rattle.mailboxes.specs.Rests.{covers, has_settled}
use Rattle.mailboxes.proofs.RestLemmas.{calm_by, rested, rests_put, tag_rest}
use Rattle.mailboxes.proofs.mailboxes.Mailboxes.settle_at.Goals as goal

pub invariant_of-self : goal.invariant_of-self
invariant_of-self c =
    let s = c.args.self.now in
    let found = c.in-Some.ensures.value in
    let mail = c.in-Some.mailbox.now in
    let puts = ((c.get_mut.follows.holds c.settle-found.new.self).3 (rw (← found) refl)).0 in
    record {
      rests = rests_put s.unswept c.and-self.result s.boxes (c.get_mut.follows.lender c.settle-found.new.self) c.args.conn c.settle-found.new.self puts
          (λ off. ap (λ (m : mails.Mail). has_settled m.waits) c.settle-found.ensures.settled
          ∙ (ap has_settled (sym (tag_rest c.args.tag _ mail.waits (sym c.settle-found.ensures.found ∙ calm_by c.and-self.ensures.found off)))
          ∙ rested s.unswept s.boxes c.args.conn mail found s.rests (c.and-self.ensures.before c.args.conn off)))
          (λ q off. c.and-self.ensures.before q off) s.rests;
    }
