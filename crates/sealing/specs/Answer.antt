-- The digits that answer a challenge: APOP's (RFC 1939, section 7) and CRAM-MD5's (RFC 2195,
-- section 2), on lists of bytes.
use Rattle.std.specs.Prelude.{ℕ, List, ◌++◌}
use Rattle.hex.specs.Hex.{encode_lower}
use Rattle.md5.specs.Md5.{md5}
use Rattle.sealing.specs.Hmac.{hmac}

-- the lower-case digits of the MD5 digest of the challenge followed by the secret
unfoldable pub apop_digits : List ℕ → List ℕ → List ℕ
apop_digits challenge secret = encode_lower (md5 (challenge ++ secret))

-- the lower-case digits of the HMAC of the challenge, under the secret as the key
unfoldable pub cram_digits : List ℕ → List ℕ → List ℕ
cram_digits challenge secret = encode_lower (hmac secret challenge)
