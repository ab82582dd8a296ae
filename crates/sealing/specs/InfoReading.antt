-- Authinfo as it is read, field by field from the left. What is read here is what Info says is spelled: the clause
-- of the reader says so.
use Rattle.std.specs.Prelude.{ℕ, ◌+◌, ◌==◌, ◌&&◌, List, length, take, drop, nat_lt, Result, Ok, Err, if◌then◌else◌}
use Rattle.std.specs.Int.{w16}
use Rattle.wire_base.specs.Texts.{is_text}
use Rattle.wire_base.specs.Readers.{Reader, ◌>>=◌, number, string, both, no_more}
use Rattle.wire_base.specs.declared.name.AuthInfo.{AuthInfo}

-- a counted name that fits a field of 28 bytes
unfoldable pub name_at : Reader (List ℕ)
name_at bytes at = do
  s ← string bytes at
  if nat_lt (length s.0) 28 && is_text s.0 then Ok s else Err at

-- two bytes that are this number
unfoldable pub given : ℕ → Reader (Unit {0})
given wanted bytes at = do
  n ← number w16 bytes at
  if n.0 == wanted then Ok (tt, n.1) else Err at

-- eight bytes, whatever they are
unfoldable pub eight_at : Reader (List ℕ)
eight_at bytes at = if nat_lt (length (drop at bytes)) 8 then Err at else Ok (take 8 (drop at bytes), at + 8)

-- cuid, suid, the length 0 of the cap, the length 8 of the secret, and the secret
abbrev pub info_fields : Reader ((((List ℕ × List ℕ) × Unit {0}) × Unit {0}) × List ℕ)
info_fields = both (both (both (both name_at name_at) (given 0)) (given 8)) eight_at

-- the authinfo that the bytes are
unfoldable pub info_reading : List ℕ → Result AuthInfo ℕ
info_reading bytes = do
  p ← info_fields bytes 0
  no_more (record { cuid = p.0.0.0.0.0; suid = p.0.0.0.0.1; secret = p.0.1 }) bytes p.1
