use Rattle.std.proofs.Common.{◌≡◌, ◌≤◌, ◌+◌, ◌*◌, [], ◌∷◌, ◌++◌, take}
use Rattle.std.specs.List.{flat_map}
use Rattle.attr_tuples.specs.Words.{quoted_byte}
use Rattle.agent_talks.proofs.room.LineRoom.append_quoted.Given as goal

-- the opening quote and the bytes so far
abbrev pub invariant-loop-byte : goal.invariant-loop-byte
invariant-loop-byte l = (l.self.text ≡ (l.fn.self.text ++ 39 ∷ []) ++ flat_map quoted_byte (take l.byte-index l.text)) × (l.fn.self.left ≤ l.self.left + (2 * l.byte-index + 1))
