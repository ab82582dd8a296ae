use Rattle.std.proofs.Common.{◌≡◌, ◌+◌, ◌++◌, take}
use Rattle.agent_talks.proofs.room.LineRoom.append.Given as goal

-- the bytes so far
abbrev pub invariant-loop-byte : goal.invariant-loop-byte
invariant-loop-byte l = (l.self.text ≡ l.fn.self.text ++ take l.byte-index l.piece) × (l.self.left + l.byte-index ≡ l.fn.self.left)
