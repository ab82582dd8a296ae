-- The DES key of a secret: the seven bytes that hexadecimal digits spell, or the key that a password stands for. After
-- factotum(4) and passtokey of authsrv(2) of the Plan 9 manual.
use Rattle.std.specs.Prelude.{ℕ, List, [], Option, Some, None, unwrap_or}
use Rattle.std.specs.Result.{result_unwrap_or}
use Rattle.hex.specs.Hex.{decode_of}
use Rattle.sealing.specs.Passwords.{password_key}

-- the bytes that hexadecimal digits spell; none where they spell none
abbrev pub spelled : List ℕ → List ℕ
spelled digits = result_unwrap_or (decode_of digits) []

-- the key that digits spell, where there are some, and else the one that a password stands for; where there is neither,
-- that of the empty password
abbrev pub digits_or_password : Option (List ℕ) → Option (List ℕ) → List ℕ
digits_or_password (Some digits) password = spelled digits
digits_or_password None password = password_key (unwrap_or password [])
