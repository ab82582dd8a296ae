use Rattle.std.proofs.Common.{rules, ◌∙◌, ap, subst}
use Rattle.turn_lock.specs.Steps.{Agree, told_of, kept, cut}
use Rattle.turn_lock.proofs.RuleKept.{enters, tells, weighs, cuts}
use Rattle.turn_lock.proofs.SeatFacts.{parted}
use Rattle.turn_lock.proofs.lock.TurnLock.split.Goals as goal

pub load_new_seat-note-requires : goal.load_new_seat-note-requires
load_new_seat-note-requires g c = (search rules, enters _ _)

pub join_seat-requires : goal.join_seat-requires
join_seat-requires g c = let came = c.load_new_seat-note.ensures.2 in (
  search rules,
  search rules,
  search rules,
  search rules,
  tells _ _ c.args.seat.me.0 _ c.load_new_seat-note.result.1.me.0 c.requires.no_turn (ap (λ v. v.stage) came.1) c.requires.nothing_told (ap (λ v. v.told) came.1),
)

pub load-requires : goal.load-requires
load-requires g c = (search rules, search rules, weighs _ _ _ c.join_seat.new.seat.me)

pub split_seat-other-requires : goal.split_seat-other-requires
split_seat-other-requires g c = let is = c.load.ensures.2.0 ∙ c.join_seat.ensures.2 in
    (search rules, search rules, cuts _ _ c.load.new.seat.me.0 (ap (λ m. m.0.stage) is) (ap (λ m. m.0.told.front) is ∙ ap (λ v. v.seen.front) c.load_new_seat-note.ensures.2.1))

pub returns-clause-parted : goal.returns-clause-parted
returns-clause-parted g c = let came = c.load_new_seat-note.ensures.2 in let told = c.join_seat.ensures.2 in let is = c.load.ensures.2.0 ∙ told in let a = c.args.seat.me.0 in
    let agree = subst (λ v. Agree (told_of a v)) came.1 (subst (λ m. Agree m.0) told c.load.ensures.2.1) in let did = c.split_seat-other.ensures in
    let view = ap (λ m. m.0) is ∙ ap (λ v. told_of a v) came.1 in
    parted c.args.seat c.split_seat-other.new.seat c.split_seat-other.result came.0 agree (ap (λ m. m.0) did.2 ∙ ap kept view) (ap (λ m. m.0) did.4 ∙ ap cut view)
