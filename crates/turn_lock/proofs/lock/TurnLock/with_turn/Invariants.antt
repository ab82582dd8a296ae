use Rattle.turn_lock.proofs.lock.TurnLock.with_turn.Given as goal

abbrev pub ghosts-give_back : goal.ghosts-give_back
ghosts-give_back g a = record { events = g.C.TurnCall.entries a._before.now.value a._reply.now }
