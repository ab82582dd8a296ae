-- What the bytes that are left make of what was read is what the whole field makes, and no number is over the most.
use Rattle.std.proofs.Common.{◌≡◌, ◌≤◌, drop}
use Rattle.sockets.specs.Endings.{after_bytes, number_read}
use Rattle.sockets.specs.declared.ending.Counted.TheVariants.{Before}
use Rattle.sockets.specs.declared.ending.TheConstants.{MOST_CHALLENGE}
use Rattle.sockets.proofs.ending.challenge_length.Given as goal

abbrev pub invariant-loop-byte : goal.invariant-loop-byte
invariant-loop-byte l = record {
  read : after_bytes l.counted (drop l.byte-index l.field) ≡ after_bytes Before l.field;
  most : number_read l.counted ≤ MOST_CHALLENGE;
}
