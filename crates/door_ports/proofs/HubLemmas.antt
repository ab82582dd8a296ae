-- What a submit adds to the exchanges through a seat.
use Rattle.std.proofs.Common.{◌≡◌, ℕ, List, [], ◌∷◌, ◌++◌, true, Option, refl, sym, subst, ◌∙◌, inl, inr}
use Rattle.std.specs.Prelude.{Ok}
use Rattle.turn_lock.specs.Fronts.{among}
use Rattle.turn_lock.specs.Seats.{numbers}
use Rattle.agent_history.specs.declared.event.Event.TheVariants.{Request, Take}
use Rattle.agent_history.specs.declared.event.StepAnswer.{StepAnswer}
use Rattle.agent_history.specs.Deeds.{is_gone}
use Rattle.agent_history.specs.Replies.{untaken}
use Rattle.agent_history.specs.Histories.{History, deeds}
use Rattle.agent_hub.specs.Submits.{HubSeat, IsSubmitted}
use Rattle.agent_hub.specs.Entries.{entry}
use Rattle.agent_hub.proofs.EntryLemmas.{adds_none, adds_one, before_it}
use Rattle.door_ports.specs.declared.reply.Reply.{Reply}
use Rattle.door_ports.specs.Exchanges.{Exchange, exchange, taken_of}
use Rattle.door_ports.specs.Hubs.{Converses, NoneIs, OneIs, Takes, Tells, Waits}
use Rattle.door_ports.proofs.ExchangeLemmas.{found_so}

-- a seat through which nothing was exchanged yet
pub converses_none : (seat : HubSeat) → Converses seat [] seat
converses_none seat = record { mine = []; added = adds_none seat; are = NoneIs }

-- a request was entered
pub asked_so : (first : HubSeat) (done : List Exchange) (conn : ℕ) (frame word : List ℕ) (a : StepAnswer) (old new : List ℕ) (before after : HubSeat) (n : ℕ) → among (numbers before) n ≡ true → Converses first done before
    → IsSubmitted (Request conn frame word) (Ok a) old new before after → Waits first done conn frame word after
asked_so first done conn frame word a old new before after n is_mine c s = record {
  mine = c.mine;
  waits = [];
  asked_at = before_it (Request conn frame word) (Ok a) old new before after s;
  added = adds_one (Request conn frame word) a old new first before after c.mine n is_mine c.added s;
  are = c.are;
  none = tt;
}

-- its reply was taken, or there was none yet
pub took_so : (first : HubSeat) (done : List Exchange) (conn : ℕ) (frame word : List ℕ) (a : StepAnswer) (found : Option Reply) (old new : List ℕ) (before after : HubSeat) (n : ℕ) → among (numbers before) n ≡ true → old ≡ [] → IsSubmitted (Take conn) (Ok a) old new before after
    → Tells a new found → Waits first done conn frame word before → Takes found first done conn frame word after
took_so first done conn frame word a found old new before after n is_mine none s tells w =
    let h : History = before_it (Take conn) (Ok a) old new before after s in
    let gone = is_gone (deeds h) conn in
    let ms = untaken (deeds h) conn in
    let request = entry w.asked_at (Request conn frame word) in
    let added = adds_one (Take conn) a old new first before after (w.waits ++ request ∷ w.mine) n is_mine w.added s in
    elim (found_so gone ms a new found s.answered.answer (s.answered.out ∙ ap_front old none) tells) [
      | inl is ↦ subst (λ (f : Option Reply). Takes f first done conn frame word after) (sym is) (record {
        mine = entry h (Take conn) ∷ (w.waits ++ request ∷ w.mine);
        added = added;
        are = OneIs done w.mine w.waits w.asked_at h (exchange conn frame word (taken_of conn h)) w.are w.none refl;
      })
      | inr (is, empty) ↦ subst (λ (f : Option Reply). Takes f first done conn frame word after) (sym is) (record {
        mine = w.mine;
        waits = entry h (Take conn) ∷ w.waits;
        asked_at = w.asked_at;
        added = added;
        are = w.are;
        none = (refl, empty, w.none);
      })
    ]
  where
    ap_front : {rest : List ℕ} (old : List ℕ) → old ≡ [] → old ++ rest ≡ rest
    ap_front {rest} old none = subst (λ (o : List ℕ). o ++ rest ≡ rest) (sym none) refl
