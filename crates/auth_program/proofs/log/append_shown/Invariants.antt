-- What was there is there, and behind it the front of the name as it is shown.
use Rattle.std.proofs.Common.{◌≡◌, ◌++◌, length, map, take}
use Rattle.auth_program.specs.Log.{shown_byte}
use Rattle.auth_program.proofs.log.append_shown.Given as goal

abbrev pub invariant-loop-byte : goal.invariant-loop-byte
invariant-loop-byte l = record {
  kept : take (length l.initial.out) l.out ≡ l.initial.out;
  shown : l.out ≡ l.initial.out ++ map shown_byte (take l.byte-index l.name);
}
