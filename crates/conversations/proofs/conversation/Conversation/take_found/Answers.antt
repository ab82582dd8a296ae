use Rattle.std.proofs.Common.{ap, subst, sym}
use Rattle.std.proofs.lemmas.Result.{on_ok_weaker}
use Rattle.talks.specs.Calls.{Found}
use Rattle.talks.specs.Meanings.{meant}
use Rattle.conversations.specs.Asking.{FindsReady}
use Rattle.conversations.proofs.ReadyLemmas.{chosen_ready, consent_ready}
use Rattle.conversations.proofs.conversation.Conversation.take_found.Goals as goal

pub returns-in-Chosen-clause-ready : goal.returns-in-Chosen-clause-ready
returns-in-Chosen-clause-ready c =
    on_ok_weaker c.use_key.result (λ met.
    subst (λ (came : Found). FindsReady c.args.self.now came c.args.asks.now) (sym (ap meant c.in-Chosen.is))
    (λ s asking list fits e. chosen_ready s c.in-Chosen.key.now asking list c.args.asks.now e)) c.use_key.ensures.met

pub returns-in-AsksConsent-clause-ready : goal.returns-in-AsksConsent-clause-ready
returns-in-AsksConsent-clause-ready c =
    on_ok_weaker c.ask_consent.result (λ made.
    subst (λ (came : Found). FindsReady c.args.self.now came c.ask_consent.new.asks) (sym (ap meant c.in-AsksConsent.is))
    (λ s asking list fits e. consent_ready s c.in-AsksConsent.key.now asking list c.ask_consent.new.asks e made)) c.ask_consent.ensures.ready
