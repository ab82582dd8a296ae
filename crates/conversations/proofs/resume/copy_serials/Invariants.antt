use Rattle.std.proofs.Common.{◌≡◌, take}
use Rattle.conversations.proofs.resume.copy_serials.Given as goal

-- the numbers so far
abbrev pub invariant-loop-serial : goal.invariant-loop-serial
invariant-loop-serial l = l.copy ≡ take l.serial-index l.serials
