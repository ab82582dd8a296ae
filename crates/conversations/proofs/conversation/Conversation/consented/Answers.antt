use Rattle.std.proofs.Common.{◌≡◌, ◌∙◌, Some, refl, sym, ap, subst}
use Rattle.talks.specs.Calls.{Consented}
use Rattle.talks.specs.Standings.{OnConfirm, Phase, Standing, says_of, standing, told_of}
use Rattle.conversations.specs.Shown.{serial_in}
use Rattle.conversations.proofs.ResumeLemmas.{agreed_so, answered_is, asks_consent, noted, on_confirm}
use Rattle.conversations.specs.Asking.{IsReady}
use Rattle.conversations.proofs.WaitLaws as laws
use Rattle.conversations.proofs.conversation.Conversation.consented.Goals as goal

pub returns-in-Ok-clause-kept : goal.returns-in-Ok-clause-kept
returns-in-Ok-clause-kept c = λ talk holds.
    let asked = sym c.asked_serial.ensures ∙ c.in-Some.is in
    let s = standing talk in
    agreed_so c.args.self.now c.go_on.new.self c.args.agrees c.in-Some.serial c.args.asking c.args.ring.now talk asked holds
    (c.in-Ok.ensures.met (record { begun = s.begun; phase = s.phase; starting = s.starting; said = says_of c.in-Some.serial c.args.agrees s.said })
    (noted c.args.self.now s c.in-Some.serial c.args.agrees c.replace-before.new.dest (c.replace-before.ensures.after ∙ c.in_ok-said.ensures) holds.carries)
    (laws.asks_for_key talk (asks_consent s.phase c.in-Some.serial (ap (λ (p : Phase). serial_in p) (sym holds.phase) ∙ asked))))

pub returns-in-Ok-clause-ready : goal.returns-in-Ok-clause-ready
returns-in-Ok-clause-ready c = λ talk holds asks.
    let asked = sym c.asked_serial.ensures ∙ c.in-Some.is in
    let s = standing talk in
    let serial : serial_in s.phase ≡ Some c.in-Some.serial = ap (λ (p : Phase). serial_in p) (sym holds.phase) ∙ asked in
    subst (λ (t : Standing). IsReady c.args.asking c.args.ring.now t c.go_on.new.asks)
    (sym (answered_is (Consented c.args.agrees) c.args.asking c.args.ring.now talk (OnConfirm c.in-Some.serial) (told_of c.in-Some.serial c.args.agrees s) (on_confirm s.phase c.in-Some.serial serial) refl refl))
    (c.in-Ok.ensures.ready (record { begun = s.begun; phase = s.phase; starting = s.starting; said = says_of c.in-Some.serial c.args.agrees s.said })
    (noted c.args.self.now s c.in-Some.serial c.args.agrees c.replace-before.new.dest (c.replace-before.ensures.after ∙ c.in_ok-said.ensures) holds.carries)
    (laws.asks_for_key talk (asks_consent s.phase c.in-Some.serial serial)))
