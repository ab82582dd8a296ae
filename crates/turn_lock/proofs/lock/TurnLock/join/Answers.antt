use Rattle.std.proofs.Common.{rules, ◌≡◌, ◌∙◌, sym, ap, subst, true}
use Rattle.turn_lock.specs.Fronts.{among}
use Rattle.turn_lock.specs.Steps.{Settled}
use Rattle.turn_lock.proofs.FrontLaws.{among_left}
use Rattle.turn_lock.proofs.RuleKept.{tells, settles}
use Rattle.turn_lock.proofs.lock.TurnLock.join.Goals as goal

pub join_seat-requires : goal.join_seat-requires
join_seat-requires g c = let one = c.requires.one in let other = c.requires.other in
    (search rules, search rules, search rules, search rules, tells _ _ c.args.a.me.0 _ c.args.b.me.0 one.no_turn other.no_turn one.nothing_told other.nothing_told)

pub load-requires : goal.load-requires
load-requires g c = (search rules, search rules, settles _ _ _ c.join_seat.new.seat.me (ap (λ m. m.0.stage) c.join_seat.ensures.2))

pub returns-clause-seat : goal.returns-clause-seat
returns-clause-seat g c = let one = c.requires.one in let told = c.join_seat.ensures in let did = c.load.ensures in
    let s = subst (λ m. Settled m.0 c.load.new.seat.me.0) told.2 did.2.1 in record {
      of_table = did.0 ∙ (told.0 ∙ one.of_table);
      no_slot = did.2.0 ∙ (ap (λ m. m.1) told.2 ∙ one.no_slot);
      no_turn = ap (λ v. v.stage) s.now;
      nothing_told = ap (λ v. v.told) s.now;
      numbered = (one.numbered.0, subst (λ v. among v.seen.numbers one.numbered.0 ≡ true) (sym s.now) (among_left c.args.a.me.0.seen.numbers c.args.b.me.0.seen.numbers one.numbered.0 one.numbered.1));
    }
