-- The authenticator of 13 bytes (authsrv(6) of the Plan 9 manual): num[1] chal[8] id[4], the id little-endian.
use Rattle.std.specs.Prelude.{◌≡◌, ℕ, List, [], ◌∷◌, ◌++◌, slice_index}
use Rattle.std.specs.Int.{w32, from_le_bytes, to_le_bytes}
use Rattle.sealing.specs.Fields.{field}
use Rattle.sealing.specs.declared.authenticator.Authenticator.{Authenticator}

-- the fields of an authenticator as they are written, in order
unfoldable pub authenticator_text : Authenticator → List ℕ
authenticator_text a =
    a.num ∷ []
    ++ a.chal
    ++ to_le_bytes w32 a.id

-- 13 bytes hold the fields of this authenticator
pub record IsAuthenticator (bytes : List ℕ) (a : Authenticator) : Type 0 where
  pub num : slice_index bytes 0 ≡ a.num
  pub chal : field 1 8 bytes ≡ a.chal
  pub id : from_le_bytes w32 (field 9 4 bytes) ≡ a.id

-- the authenticator that 13 bytes are
unfoldable pub authenticator_of : List ℕ → Authenticator
authenticator_of bytes = record {
  num = slice_index bytes 0;
  chal = field 1 8 bytes;
  id = from_le_bytes w32 (field 9 4 bytes);
}
