-- HMAC with MD5 as the hash function (RFC 2104, section 2), on lists of bytes: the key's block,
-- the two pads, and the code of a text under a key.
use Rattle.std.specs.Prelude.{ℕ, ◌-◌, nat_lt, if◌then◌else◌, List, ◌++◌, length, map, replicate, bit_xor}
use Rattle.md5.specs.Md5.{md5}

-- B: MD5 works on blocks of 64 bytes
abbrev pub block_length : ℕ
block_length = 64

-- the byte that ipad repeats
abbrev pub inner_pad : ℕ
inner_pad = 0x36

-- the byte that opad repeats
abbrev pub outer_pad : ℕ
outer_pad = 0x5c

-- the digest of a key that is longer than a block, and any other key as it is
abbrev pub fitted_key : List ℕ → List ℕ
fitted_key key = if nat_lt block_length (length key) then md5 key else key

-- K: the fitted key, and zeros after it up to the length of a block
unfoldable pub block_key : List ℕ → List ℕ
block_key key = fitted_key key ++ replicate (block_length - length (fitted_key key)) 0

-- a block with each of its bytes exclusive-ored with the byte of a pad
abbrev pub masked : ℕ → List ℕ → List ℕ
masked pad block = map (λ byte. bit_xor byte pad) block

-- H(K XOR opad, H(K XOR ipad, text)): the digest of the key's block under the outer pad, followed
-- by the digest of the key's block under the inner pad, followed by the text
unfoldable pub hmac : List ℕ → List ℕ → List ℕ
hmac key text =
    md5 (masked outer_pad (block_key key) ++ md5 (masked inner_pad (block_key key) ++ text))
