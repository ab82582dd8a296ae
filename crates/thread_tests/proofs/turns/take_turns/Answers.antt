use Rattle.std.proofs.Common.{◌≡◌, [], ◌∷◌, ◌++◌, add-one, ap, sym, subst, ◌∙◌}
use Rattle.turn_lock.specs.Counting.{countdown}
use Rattle.turn_lock.specs.Fronts.{events, own}
use Rattle.turn_lock.specs.Seats.{front, numbers}
use Rattle.turn_lock.proofs.FrontLaws.{made_events}
use Rattle.turn_lock.proofs.SeatFacts.{own_turned}
use Rattle.thread_tests.proofs.turns.take_turns.Goals as goal

pub loop-call-preserved : goal.loop-call-preserved
loop-call-preserved g c = let i = c.loop-call.invariant in let before = c.loop-call.seat in let after = c.count_one-next.result.0 in let call = c.loop-call.call in let t = c.count_one-next.ensures.turned in
    let now : events (own (numbers before) (front after)) ≡ call ∷ events (own (numbers before) (front before)) =
    ap events (own_turned (call ∷ []) _ before after i.0.numbered.0 i.0.numbered.1 t) ∙ made_events (numbers before) (call ∷ []) (own (numbers before) (front before)) in
    let same = subst (λ ns. events (own ns (front after)) ≡ call ∷ events (own ns (front before))) i.1 now in (
      c.count_one-next.ensures.seat,
      t.same_numbers ∙ i.1,
      same ∙ (ap (λ z. call ∷ z) i.2 ∙ ap (λ n. countdown n ++ events (own (numbers c.args.seat) (front c.args.seat))) (sym (add-one call))),
    )
