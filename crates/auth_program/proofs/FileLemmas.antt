-- What is told of a file that was read whole.
use Rattle.std.proofs.Common.{◌≡◌, ◌∙◌, ◌≤◌, ℕ, List, ◌++◌, append-nil, length, length-append, Option, Some, None, ap, subst, arith}
use Rattle.std.specs.Io.KnownBytes.{Consumes, IsAtEnd}
use Rattle.auth_program.specs.Files.{FloodsFile, ReadsFile, most_file}

-- what was read stands in front of what is told
front_of : (content read : List ℕ) (left : Option (List ℕ)) → Consumes (Some content) left read → (rest : List ℕ) × (content ≡ read ++ rest)
front_of content read None taken = absurd taken
front_of content read (Some rest) taken = (rest, taken)

-- and at the end it is that
all_read : (content read : List ℕ) (left : Option (List ℕ)) → Consumes (Some content) left read → IsAtEnd left → content ≡ read
all_read content read None taken end = absurd taken
all_read content read (Some rest) taken end = taken ∙ ap (λ (r : List ℕ). read ++ r) end ∙ append-nil read

-- a file that is told was read as it is
pub told_file : (content file : List ℕ) (before now : Option (List ℕ)) → before ≡ Some content → ReadsFile before now file → content ≡ file
told_file content file before now told r = all_read content file now (subst (λ (b : Option (List ℕ)). Consumes b now file) told r.read) r.at_end

-- and it is no flood where it is within the limit
pub no_flood : (content : List ℕ) (before now : Option (List ℕ)) → before ≡ Some content → length content ≤ most_file → FloodsFile before now → ⊥
no_flood content before now told few f =
    let r = front_of content f.taken now (subst (λ (b : Option (List ℕ)). Consumes b now f.taken) told f.read) in
    omega (arith, few, f.over, ap length r.1, length-append f.taken r.0)
