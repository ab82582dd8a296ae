-- The text of one line: UTF-8 (RFC 3629) whose bytes are from 0x20 on, or tabs.
use Rattle.std.specs.Prelude.{ℕ, List, Bool, not, ◌&&◌, ◌||◌, ◌==◌, nat_le, min}
use Rattle.std.specs.List.{list_all, position_or_len}
use Rattle.std.specs.Str.{is_utf8}
use Rattle.std.specs.Str.Lossy.{utf8_valid_len}

-- a byte of a line: from 0x20 on, or a tab
abbrev pub is_line_byte : ℕ → Bool
is_line_byte b = nat_le 32 b || b == 9

-- bytes that are a line
abbrev pub is_line : List ℕ → Bool
is_line bytes = list_all is_line_byte bytes && is_utf8 bytes

-- how many bytes stand before the first that is no byte of a line, or before the first where UTF-8 ends, if that
-- comes earlier
unfoldable pub line_len : List ℕ → ℕ
line_len bytes = min (utf8_valid_len bytes) (position_or_len (λ b. not (is_line_byte b)) bytes)
