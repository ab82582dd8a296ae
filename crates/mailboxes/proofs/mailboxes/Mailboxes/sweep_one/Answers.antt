use Rattle.std.proofs.Common.{◌≡◌, None, refl, ap, subst, rules, ◌∙◌}
use Rattle.std.specs.Ordering.{nat_cmp}
use Rattle.std.specs.BTreeMap.{get}
use Rattle.mailboxes.specs.declared.settled_for.SettledFor.{SettledFor}
use Rattle.mailboxes.specs.Mails.{Mail}
use Rattle.mailboxes.specs.Deliveries.{mail_in}
use Rattle.mailboxes.specs.Rests.{Rests}
use Rattle.mailboxes.proofs.RestLemmas.{Puts, nothing_swept, one_rests, one_swept}
use Rattle.mailboxes.proofs.mailboxes.Mailboxes.sweep_one.Goals as goal

pub returns-in_default-clause-mails : goal.returns-in_default-clause-mails
returns-in_default-clause-mails c =
    let s = c.args.self.now in
    let none : None ≡ get nat_cmp s.boxes c.args.conn = search rules in
    let same : c.get_mut.follows.lender-at-none ≡ s.boxes = search rules in
    λ q. ap (λ b. mail_in (get nat_cmp b q)) same ∙ nothing_swept s.boxes c.args.conn none (subst (λ (u : SettledFor). Rests u s.boxes) c.requires s.rests) q

pub invariant_of-self-2 : goal.invariant_of-self-2
invariant_of-self-2 c =
    let s = c.args.self.now in
    let found = c.in-Some.ensures.value in
    let puts = ((c.get_mut.follows.holds c.sweep.new.self).3 (rw (← found) refl)).0 in
    record { rests = one_rests s.boxes (c.get_mut.follows.lender c.sweep.new.self) c.args.conn c.in-Some.mailbox.now (subst (λ (m : Mail). Puts s.boxes (c.get_mut.follows.lender c.sweep.new.self) c.args.conn m) c.sweep.ensures puts) (subst (λ (u : SettledFor). Rests u s.boxes) c.requires s.rests) }

pub returns-clause-mails : goal.returns-clause-mails
returns-clause-mails c =
    let s = c.args.self.now in
    let found = c.in-Some.ensures.value in
    let puts = ((c.get_mut.follows.holds c.sweep.new.self).3 (rw (← found) refl)).0 in
    one_swept s.boxes (c.get_mut.follows.lender c.sweep.new.self) c.args.conn c.in-Some.mailbox.now found (subst (λ (m : Mail). Puts s.boxes (c.get_mut.follows.lender c.sweep.new.self) c.args.conn m) c.sweep.ensures puts) (subst (λ (u : SettledFor). Rests u s.boxes) c.requires s.rests)
