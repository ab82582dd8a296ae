-- The key schedule (FIPS 46-3, appendix 1), and the cipher on blocks of eight bytes.
use Rattle.std.specs.Prelude.{◌≡◌, ℕ, ◌/◌, Bool, List, [], ◌∷◌, ◌++◌, take, drop, map}
use Rattle.des_block.specs.Bits.{bits_of, bytes_of, permuted}
use Rattle.des_block.specs.Tables.{PC1, PC2, left_shifts}
use Rattle.des_block.specs.Rounds.{encrypt_bits, decrypt_bits}

-- the bits shifted left by so many places, the first ones coming round to the end
abbrev pub shifted_left : ℕ → List Bool → List Bool
shifted_left places bits = drop places bits ++ take places bits

-- the round keys from C and D on: both are shifted, and PC2 chooses the key's bits from the two
unfoldable pub round_keys : List ℕ → List Bool → List Bool → List (List Bool)
round_keys [] c d = []
round_keys (places ∷ shifts) c d =
    permuted PC2 (shifted_left places c ++ shifted_left places d)
    ∷ round_keys shifts (shifted_left places c) (shifted_left places d)

-- the sixteen round keys of a key of 64 bits, eight of them parity bits that PC1 leaves out
unfoldable pub key_schedule : List Bool → List (List Bool)
key_schedule key =
    let chosen = permuted PC1 key in
    round_keys left_shifts (take 28 chosen) (drop 28 chosen)

-- two keys are the same but for their parity bits, the lowest bit of each byte
abbrev pub SameButParity : List ℕ → List ℕ → Type 0
SameButParity key other = map (λ n. n / 2) key ≡ map (λ n. n / 2) other

-- a block of eight bytes enciphered under these round keys
unfoldable pub enciphered_with : List (List Bool) → List ℕ → List ℕ
enciphered_with keys block = bytes_of 8 (encrypt_bits keys (bits_of block))

-- a block of eight bytes deciphered under these round keys
unfoldable pub deciphered_with : List (List Bool) → List ℕ → List ℕ
deciphered_with keys block = bytes_of 8 (decrypt_bits keys (bits_of block))

-- a block of eight bytes enciphered under a key of eight bytes
unfoldable pub enciphered : List ℕ → List ℕ → List ℕ
enciphered key block = enciphered_with (key_schedule (bits_of key)) block

-- a block of eight bytes deciphered under a key of eight bytes
unfoldable pub deciphered : List ℕ → List ℕ → List ℕ
deciphered key block = deciphered_with (key_schedule (bits_of key)) block
