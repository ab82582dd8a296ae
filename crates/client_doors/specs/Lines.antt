-- The line that tells of clients that were hung up.
use Rattle.std.specs.Prelude.{ℕ, List, [], ◌∷◌, ◌++◌, ◌==◌, codes, if◌then◌else◌}
use Rattle.std.specs.Fmt.{decimal}

abbrev pub one_hung_up : List ℕ → List ℕ
one_hung_up name = name ++ (codes ": 1 client hung up: too many at once, or of one address" ++ 10 ∷ [])

abbrev pub many_hung_up : List ℕ → ℕ → List ℕ
many_hung_up name n = name ++ (codes ": "
    ++ (decimal n ++ (codes " clients hung up: too many at once, or of one address" ++ 10 ∷ [])))

abbrev pub hung_up_line : List ℕ → ℕ → List ℕ
hung_up_line name n = if n == 1 then one_hung_up name else many_hung_up name n
