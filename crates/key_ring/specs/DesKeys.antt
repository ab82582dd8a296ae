-- The DES key of a key: of a key of p9sk1 the seven bytes that its `!hex` spells, where it has one, and else the key
-- that its password stands for. After factotum(4) and passtokey of authsrv(2) of the Plan 9 manual.
use Rattle.std.specs.Prelude.{ℕ, List, codes, Option, None, if◌then◌else◌}
use Rattle.attr_tuples.specs.declared.attr.Attr.{Attr}
use Rattle.attr_tuples.specs.Matching.{value_of}
use Rattle.key_lists.specs.Digits.{digits_or_password}
use Rattle.key_lists.specs.KeyFaults.{is_p9sk1}

-- the digits of a key of p9sk1, if it has some
abbrev pub hex_of : List Attr → Option (List ℕ)
hex_of key = if is_p9sk1 key then value_of (codes "!hex") key else None

-- the DES key of a key
unfoldable pub des_key : List Attr → List ℕ
des_key key = digits_or_password (hex_of key) (value_of (codes "!password") key)
