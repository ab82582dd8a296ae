-- What was read of an input whose content is told.
use Rattle.std.proofs.Common.{◌≡◌, ℕ, List, ◌++◌, Option, Some, None, ap, ◌∙◌, append-nil}
use Rattle.std.specs.Io.KnownBytes.{Consumes, IsAtEnd}

-- it stands in front of the content
pub front_of : (content read : List ℕ) (left : Option (List ℕ)) → Consumes (Some content) left read → (rest : List ℕ) × (content ≡ read ++ rest)
front_of content read None taken = absurd taken
front_of content read (Some rest) taken = (rest, taken)

-- and where the input is at its end it is the content
pub all_read : (content read : List ℕ) (left : Option (List ℕ)) → Consumes (Some content) left read → IsAtEnd left → content ≡ read
all_read content read None taken end = absurd taken
all_read content read (Some rest) taken end = taken ∙ ap (λ (r : List ℕ). read ++ r) end ∙ append-nil read
