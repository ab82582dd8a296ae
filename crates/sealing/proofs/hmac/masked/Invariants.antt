-- The bytes before the index are masked, and those from there on are as they were.
use Rattle.std.proofs.Common.{◌≡◌, ◌++◌, take, drop}
use Rattle.sealing.specs.Hmac.{masked}
use Rattle.sealing.proofs.hmac.masked.Given as goal

abbrev pub invariant-loop-byte : goal.invariant-loop-byte
invariant-loop-byte l =
    l.byte-items ≡ masked l.pad (take l.byte-index l.fn.block) ++ drop l.byte-index l.fn.block
