use Rattle.std.proofs.Common.{◌∙◌, refl, sym, ap, subst}
use Rattle.std.proofs.lemmas.Result.{on_ok_weaker}
use Rattle.talks.specs.Calls.{KeyTold}
use Rattle.talks.specs.Standings.{OnNeedkey, Phase, Seeking, Standing, in_phase, standing}
use Rattle.conversations.specs.Shown.{asks_for_key}
use Rattle.conversations.proofs.ResumeLemmas.{answered_is, asks_key, on_needkey, told_so}
use Rattle.conversations.specs.Asking.{IsReady}
use Rattle.conversations.proofs.WaitLaws as laws
use Rattle.conversations.proofs.conversation.Conversation.key_told.Goals as goal

pub returns-clause-kept : goal.returns-clause-kept
returns-clause-kept c =
    let asked = sym c.asks_for_key.ensures ∙ c.if-not-asks_for_key.false in
    on_ok_weaker c.go_on.result (λ met talk holds.
    told_so c.args.self.now c.go_on.new.self c.args.asking c.args.ring.now talk asked holds
    (met (standing talk) holds.carries (laws.asks_for_key talk (asks_key (standing talk).phase (ap (λ (p : Phase). asks_for_key p) (sym holds.phase) ∙ asked))))) c.go_on.ensures.met

pub returns-clause-ready : goal.returns-clause-ready
returns-clause-ready c =
    let asked = sym c.asks_for_key.ensures ∙ c.if-not-asks_for_key.false in
    on_ok_weaker c.go_on.result (λ ready talk holds asks.
    let s = standing talk in
    let key = ap (λ (p : Phase). asks_for_key p) (sym holds.phase) ∙ asked in
    subst (λ (t : Standing). IsReady c.args.asking c.args.ring.now t c.go_on.new.asks)
    (sym (answered_is KeyTold c.args.asking c.args.ring.now talk OnNeedkey (in_phase s Seeking) (on_needkey s.phase key) refl refl))
    (ready s holds.carries (laws.asks_for_key talk (asks_key s.phase key)))) c.go_on.ensures.ready
