use Rattle.std.proofs.Common.{rules}
use Rattle.turn_lock.proofs.RuleKept.{peeks, tries}
use Rattle.turn_lock.proofs.lock.TurnLock.try_turn.Goals as goal

pub load-turns-requires : goal.load-turns-requires
load-turns-requires g c = (search rules, search rules, peeks _ _ _ c.args.seat.now.me)

pub compare_exchange-found-requires : goal.compare_exchange-found-requires
compare_exchange-found-requires g c = (search rules, search rules, tries _ _ _ c.load-turns.new.seat.me c.load-turns.result (search rules))
