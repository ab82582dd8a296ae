use Rattle.std.proofs.Common.{rules, ◌≡◌, ◌∙◌, sym, subst, true}
use Rattle.std.proofs.lemmas.Result.{on_ok_weaker}
use Rattle.talks.specs.Standings.{Standing, need_in}
use Rattle.conversations.specs.declared.begun.Wanted.TheVariants as w
use Rattle.conversations.proofs.SearchLemmas.{key_some, offers_some, pick_some, searched_is, searched_so, seeks_so, wants_key, wants_offers, wants_pick}
use Rattle.conversations.specs.Asking.{IsReady}
use Rattle.conversations.proofs.ReadyLemmas.{offers_ready, pick_ready}
use Rattle.conversations.proofs.conversation.Conversation.search_once.Goals as goal

pub returns-in-Key-clause-met : goal.returns-in-Key-clause-met
returns-in-Key-clause-met c =
    let seeks : c.is_seeking.result ≡ true = search rules in
    let key : c.wanted.result ≡ w.Key = search rules in
    on_ok_weaker c.search_key.result (λ met s fits.
    let wanted = sym key ∙ c.wanted.ensures s fits.carries in
    searched_so c.search_key.new.self c.args.asking c.args.ring.now s (seeks_so c.args.self.now s c.is_seeking.result fits c.is_seeking.ensures ∙ seeks) (key_some (need_in s.begun) wanted) (met s fits (wants_key (need_in s.begun) wanted))) c.search_key.ensures.met

pub returns-in-Offers-clause-met : goal.returns-in-Offers-clause-met
returns-in-Offers-clause-met c =
    let seeks : c.is_seeking.result ≡ true = search rules in
    let offers : c.wanted.result ≡ w.Offers = search rules in
    on_ok_weaker c.search_offers.result (λ met s fits.
    let wanted = sym offers ∙ c.wanted.ensures s fits.carries in
    searched_so c.search_offers.new.self c.args.asking c.args.ring.now s (seeks_so c.args.self.now s c.is_seeking.result fits c.is_seeking.ensures ∙ seeks) (offers_some (need_in s.begun) wanted) (met s c.args.asking fits (wants_offers (need_in s.begun) wanted))) c.search_offers.ensures.met

pub returns-in-Pick-clause-met : goal.returns-in-Pick-clause-met
returns-in-Pick-clause-met c =
    let seeks : c.is_seeking.result ≡ true = search rules in
    let pick : c.wanted.result ≡ w.Pick = search rules in
    λ s fits.
    let wanted = sym pick ∙ c.wanted.ensures s fits.carries in
    searched_so c.search_pick.new.self c.args.asking c.args.ring.now s (seeks_so c.args.self.now s c.is_seeking.result fits c.is_seeking.ensures ∙ seeks) (pick_some (need_in s.begun) wanted) (c.search_pick.ensures.met s c.args.asking fits (wants_pick (need_in s.begun) wanted))

pub returns-in-Key-clause-ready : goal.returns-in-Key-clause-ready
returns-in-Key-clause-ready c =
    let seeks : c.is_seeking.result ≡ true = search rules in
    let key : c.wanted.result ≡ w.Key = search rules in
    on_ok_weaker c.search_key.result (λ ready s fits before.
    let wanted = sym key ∙ c.wanted.ensures s fits.carries in
    subst (λ (t : Standing). IsReady c.args.asking c.args.ring.now t c.search_key.new.asks)
    (sym (searched_is c.args.asking c.args.ring.now s (seeks_so c.args.self.now s c.is_seeking.result fits c.is_seeking.ensures ∙ seeks) (key_some (need_in s.begun) wanted)))
    (ready s fits (wants_key (need_in s.begun) wanted))) c.search_key.ensures.ready

pub returns-in-Offers-clause-ready : goal.returns-in-Offers-clause-ready
returns-in-Offers-clause-ready c =
    let seeks : c.is_seeking.result ≡ true = search rules in
    let offers : c.wanted.result ≡ w.Offers = search rules in
    on_ok_weaker c.search_offers.result (λ met s fits before.
    let wanted = sym offers ∙ c.wanted.ensures s fits.carries in
    subst (λ (t : Standing). IsReady c.args.asking c.args.ring.now t c.args.asks.now)
    (sym (searched_is c.args.asking c.args.ring.now s (seeks_so c.args.self.now s c.is_seeking.result fits c.is_seeking.ensures ∙ seeks) (offers_some (need_in s.begun) wanted)))
    (offers_ready s c.args.asking c.args.ring.now c.args.asks.now (wants_offers (need_in s.begun) wanted))) c.search_offers.ensures.met

pub returns-in-Pick-clause-ready : goal.returns-in-Pick-clause-ready
returns-in-Pick-clause-ready c =
    let seeks : c.is_seeking.result ≡ true = search rules in
    let pick : c.wanted.result ≡ w.Pick = search rules in
    λ s fits before.
    let wanted = sym pick ∙ c.wanted.ensures s fits.carries in
    subst (λ (t : Standing). IsReady c.args.asking c.args.ring.now t c.args.asks.now)
    (sym (searched_is c.args.asking c.args.ring.now s (seeks_so c.args.self.now s c.is_seeking.result fits c.is_seeking.ensures ∙ seeks) (pick_some (need_in s.begun) wanted)))
    (pick_ready s c.args.asking c.args.ring.now c.args.asks.now (wants_pick (need_in s.begun) wanted))
