use Rattle.std.proofs.Common.{rules, ◌++◌, [], sym, ap, ◌∙◌, subst}
use Rattle.turn_lock.specs.Fronts.{events}
use Rattle.turn_lock.proofs.FrontLaws.{made_events}
use Rattle.turn_lock.proofs.RuleKept.{gives_back}
use Rattle.turn_lock.proofs.lock.TurnLock.give_back.Goals as goal

pub fetch_add-requires : goal.fetch_add-requires
fetch_add-requires g c = let h = c.requires.value in let v = c.args.seat.now.me.0 in let done = g.N.Made.events in
    let is = ap (λ e. e ++ events v.seen.front) (sym c.requires.events) ∙ sym (made_events v.seen.numbers done v.seen.front) in
    (search rules, search rules, gives_back _ _ _ c.args.seat.now.me done h.state [] h.has_turn h.slot (subst (λ z. g.S.Logged.stands z h.state) is h.for_history) c.requires.numbered.0 c.requires.numbered.1)
