-- The front of the buffer came off the source and is within the answer, and no read failed.
-- Each turn that goes on reads a byte, so the room that is left falls.
use Rattle.std.proofs.Common.{◌-◌, ◌≡◌, ◌≤◌, length, take}
use Rattle.std.specs.Io.KnownBytes.{Consumes}
use Rattle.sockets.specs.Endings.{answer_length}
use Rattle.sockets.proofs.hearing.read_answer.Given as goal

abbrev pub invariant-loop-heard : goal.invariant-loop-heard
invariant-loop-heard g l = record {
  consumed : Consumes (g.S.Source.left l.fn.source) (g.S.Source.left l.source) (take l.heard l.room);
  no_more : l.heard ≤ answer_length l.shape (take l.heard l.room);
  within : l.heard ≤ length l.room;
  room : length l.room ≡ length l.fn.room;
  steady : g.S.Source.faults l.source ≡ g.S.Source.faults l.fn.source;
}

abbrev pub decreases-loop-heard : goal.decreases-loop-heard
decreases-loop-heard g l = length l.fn.room - l.heard
