use Rattle.std.proofs.Common.{rules, ◌≡◌, subst, sym}
use Rattle.std.proofs.lemmas.Result.{on_err_weaker, on_ok_weaker}
use Rattle.talks.specs.Standings.{Standing, standing}
use Rattle.conversations.specs.declared.phase.Phase.TheVariants as held
use Rattle.conversations.specs.Meanings.{request_of}
use Rattle.conversations.proofs.PerformLemmas.{performed, performed_is}
use Rattle.conversations.specs.Asking.{IsReady}
use Rattle.conversations.proofs.WaitingLemmas.{carries_so, waits_so}
use Rattle.conversations.proofs.WaitLaws.{waits_idle}
use Rattle.conversations.proofs.conversation.Conversation.perform.Goals as goal

pub returns-in-Waiting-clause-kept : goal.returns-in-Waiting-clause-kept
returns-in-Waiting-clause-kept c =
    let waited : c.args.self.now.phase ≡ held.Waiting c.in-Waiting.request = search rules in
    on_ok_weaker c.perform_request.result (λ met talk holds.
    performed c.perform_request.new.self c.args.word c.args.asking c.args.ring.now talk (request_of c.in-Waiting.request) (waits_so c.args.self.now (standing talk) c.in-Waiting.request holds waited)
    (met (standing talk) (carries_so c.args.self.now c.replace.new.dest (standing talk) holds.carries))) c.perform_request.ensures.met

pub returns-in-Waiting-clause-back : goal.returns-in-Waiting-clause-back
returns-in-Waiting-clause-back c =
    let waited : c.args.self.now.phase ≡ held.Waiting c.in-Waiting.request = search rules in
    on_err_weaker c.perform_request.result (λ back talk holds.
    let waits = waits_so c.args.self.now (standing talk) c.in-Waiting.request holds waited in
    back (standing talk) (carries_so c.args.self.now c.replace.new.dest (standing talk) holds.carries) (waits_idle talk (request_of c.in-Waiting.request) waits) waits) c.perform_request.ensures.back

pub returns-in-Waiting-clause-ready : goal.returns-in-Waiting-clause-ready
returns-in-Waiting-clause-ready c =
    let waited : c.args.self.now.phase ≡ held.Waiting c.in-Waiting.request = search rules in
    on_ok_weaker c.perform_request.result (λ ready talk holds before.
    subst (λ (t : Standing). IsReady c.args.asking c.args.ring.now t c.perform_request.new.asks)
    (sym (performed_is c.args.word c.args.asking c.args.ring.now talk (request_of c.in-Waiting.request) (waits_so c.args.self.now (standing talk) c.in-Waiting.request holds waited)))
    (ready (standing talk) (carries_so c.args.self.now c.replace.new.dest (standing talk) holds.carries))) c.perform_request.ensures.ready
