-- Authinfo (auth(2) and factotum(4) of the Plan 9 manual; convM2AI of its libauth): cuid, suid, cap and secret,
-- each with a length of two bytes in front, little-endian. The cap is empty, and the secret has eight bytes.
use Rattle.std.specs.Prelude.{◌≡◌, ℕ, List, [], ◌++◌, length}
use Rattle.std.specs.Int.{w16}
use Rattle.wire_base.specs.Names.{IsName}
use Rattle.wire_base.specs.Readers.{counted}
use Rattle.wire_base.specs.declared.name.AuthInfo.{AuthInfo}

-- the fields of an authinfo as they are written, in order
unfoldable pub info_text : AuthInfo → List ℕ
info_text i =
    counted w16 i.cuid
    ++ counted w16 i.suid
    ++ counted w16 []
    ++ counted w16 i.secret

-- the bytes are this authinfo and nothing behind it
pub record IsInfo (bytes : List ℕ) (i : AuthInfo) : Type 0 where
  pub spelling : bytes ≡ info_text i
  pub cuid : IsName 28 i.cuid
  pub suid : IsName 28 i.suid
  pub secret : length i.secret ≡ 8
