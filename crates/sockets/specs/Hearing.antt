-- What is taken of a source as an answer. The definitions are the project's own, in the words that std has for its
-- readers.
use Rattle.std.specs.Prelude.{ℕ, ◌<◌, ◌≤◌, List, Option, length, take}
use Rattle.std.specs.Io.KnownBytes.{Consumes, IsAtEnd}
use Rattle.wire_base.specs.declared.shape.Shape.{Shape}
use Rattle.sockets.specs.Endings.{answer_length}

-- These bytes came off the source: no more than the answer has, and fewer only where the source ended.
pub record IsHeard (shape : Shape) (old new : Option (List ℕ)) (answer : List ℕ) : Type 0 where
  pub consumed : Consumes old new answer
  pub no_more : length answer ≤ answer_length shape answer
  pub whole : length answer < answer_length shape answer → IsAtEnd new

-- So many bytes at the front of a room are something of an answer, and no more than it has.
abbrev pub HoldsAnswer : Shape → List ℕ → ℕ → Type 0
HoldsAnswer shape room count =
    (0 < count) × (count ≤ length room) × (length (take count room) ≤ answer_length shape (take count room))
