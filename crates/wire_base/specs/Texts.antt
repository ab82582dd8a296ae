-- Text, as the strings of 9P hold it: UTF-8 (RFC 3629) without NUL (intro(5) of the Plan 9 manual).
use Rattle.std.specs.Prelude.{ℕ, List, Bool, not, ◌&&◌, ◌==◌}
use Rattle.std.specs.List.{list_any}
use Rattle.std.specs.Str.{is_utf8}

-- the bytes are UTF-8 and none of them is 0
unfoldable pub is_text : List ℕ → Bool
is_text bytes = not (list_any (λ b. b == 0) bytes) && is_utf8 bytes
