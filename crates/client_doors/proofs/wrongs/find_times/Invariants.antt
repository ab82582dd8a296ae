use Rattle.std.proofs.Common.{◌≡◌, drop}
use Rattle.client_doors.specs.Wrongs.{times_of}
use Rattle.client_doors.proofs.wrongs.find_times.Given as goal

abbrev pub invariant-loop-guesser : goal.invariant-loop-guesser
invariant-loop-guesser l = times_of l.address (drop l.guesser-index l.guessers) ≡ times_of l.address l.guessers
