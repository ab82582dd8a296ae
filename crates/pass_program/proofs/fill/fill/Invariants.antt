-- What stands behind the front that was there came off the source, and no call failed.
use Rattle.std.proofs.Common.{◌-◌, ◌≡◌, ◌≤◌, length, take, drop}
use Rattle.std.specs.Io.KnownBytes.{Consumes}
use Rattle.pass_program.proofs.fill.fill.Given as goal

abbrev pub invariant-loop-have : goal.invariant-loop-have
invariant-loop-have g l = record {
  consumed : Consumes (g.R.Source.left l.fn.source) (g.R.Source.left l.source) (drop l.from (take l.have l.buffer));
  front : take l.from l.buffer ≡ take l.from l.fn.buffer;
  behind : l.from ≤ l.have;
  within : l.have ≤ length l.buffer;
  room : length l.buffer ≡ length l.fn.buffer;
  steady : g.R.Source.faults l.source ≡ g.R.Source.faults l.fn.source;
}

abbrev pub decreases-loop-have : goal.decreases-loop-have
decreases-loop-have g l = length l.fn.buffer - l.have
