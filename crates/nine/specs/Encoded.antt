-- What an encoder has written while it is on its way.
use Rattle.std.specs.Prelude.{◌≡◌, ℕ, ◌+◌, List, ◌++◌}
use Rattle.std.specs.Int.{w8, w16, w32, to_le_bytes}

-- something stands behind what stood
abbrev pub Extends : List ℕ → List ℕ → Type 0
Extends old new = (more : List ℕ) × (new ≡ old ++ more)

-- size[4] type[1] tag[2], of a message whose fields have so many bytes
unfoldable pub head : ℕ → ℕ → ℕ → List ℕ
head fields kind tag = to_le_bytes w32 (7 + fields) ++ to_le_bytes w8 kind ++ to_le_bytes w16 tag
