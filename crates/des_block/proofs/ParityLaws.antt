-- The parity bits of a key play no part in its schedule.
use Rattle.std.proofs.Common.{◌≡◌, ℕ, zero, suc, ◌+◌, ◌-◌, ◌*◌, ◌/◌, ◌%◌, ◌^◌, ◌<◌, ◌==◌, Bool, true, false, nat_lt, List, [], ◌∷◌, ◌++◌, length, take, drop, map, get_or, refl, sym, ap, ◌∙◌, arith}
use Rattle.std.proofs.Math.Nat.{pow-succ', div-div-eq-div-mul, div-one}
use Rattle.std.proofs.lemmas.Bool.{and_parts, ltb-true}
use Rattle.std.proofs.lemmas.List.{get_or_append_left, get_or-append-add}
use Rattle.std.specs.List.{flat_map, list_all}
use Rattle.des_block.specs.Bits.{binary, bit_numbered, bits_of, permuted}
use Rattle.des_block.specs.Tables.{PC1, left_shifts}
use Rattle.des_block.specs.Schedule.{SameButParity, key_schedule, round_keys}

-- the lowest bit stands last
binary-half : (width n : ℕ) → binary (suc width) n ≡ binary width (n / 2) ++ (n % 2 == 1) ∷ []
binary-half zero n = ap (λ (k : ℕ). (k % 2 == 1) ∷ []) (div-one n)
binary-half (suc width) n =
    ap (λ (k : ℕ). (k % 2 == 1) ∷ binary (suc width) n)
    (ap (λ (k : ℕ). n / k) (pow-succ' 2 width) ∙ sym (div-div-eq-div-mul n 2 (2 ^ width)))
    ∙ ap (λ (bits : List Bool). (n / 2 / 2 ^ width % 2 == 1) ∷ bits) (binary-half width n)

-- a place within the first piece, whatever follows it
in_front : (front more other : List Bool) (i j : ℕ) → i ≡ j → j < length front → get_or (front ++ more) i false ≡ get_or (front ++ other) i false
in_front front more other i j e l =
    ap (λ (k : ℕ). get_or (front ++ more) k false) e
    ∙ get_or_append_left front more false j l
    ∙ sym (get_or_append_left front other false j l)
    ∙ sym (ap (λ (k : ℕ). get_or (front ++ other) k false) e)

-- a place behind the first piece
behind_front : (width q j : ℕ) (front rest : List Bool) → length front ≡ width → get_or (front ++ rest) (width * suc q + j) false ≡ get_or rest (width * q + j) false
behind_front width q j front rest long =
    ap (λ (k : ℕ). get_or (front ++ rest) k false) (let e : width * suc q + j ≡ length front + (width * q + j) = omega arith in e)
    ∙ get_or-append-add front rest (width * q + j) false

-- a bit that isn't the last of its byte stands in the bytes without their lowest bits
bit_without_parity : (bytes : List ℕ) (q j : ℕ) → j < 7 → get_or (flat_map (binary 8) bytes) (8 * q + j) false ≡ get_or (flat_map (binary 7) (map (λ n. n / 2) bytes)) (7 * q + j) false
bit_without_parity [] q j l = refl
bit_without_parity (byte ∷ bytes) zero j l =
    ap (λ (bits : List Bool). get_or (bits ++ flat_map (binary 8) bytes) (8 * 0 + j) false) (binary-half 7 byte)
    ∙ in_front (binary 7 (byte / 2)) ((byte % 2 == 1) ∷ flat_map (binary 8) bytes) (flat_map (binary 7) (map (λ n. n / 2) bytes)) (0 + j) j (omega arith) l
bit_without_parity (byte ∷ bytes) (suc q) j l =
    behind_front 8 q j (binary 8 byte) (flat_map (binary 8) bytes) refl
    ∙ bit_without_parity bytes q j l
    ∙ sym (behind_front 7 q j (binary 7 (byte / 2)) (flat_map (binary 7) (map (λ n. n / 2) bytes)) refl)

-- a table that names no lowest bit chooses from the bytes without these
chosen_without_parity : (table bytes : List ℕ) → list_all (λ k. nat_lt ((k - 1) % 8) 7) table ≡ true → permuted table (bits_of bytes) ≡ map (λ k. get_or (flat_map (binary 7) (map (λ n. n / 2) bytes)) (7 * ((k - 1) / 8) + (k - 1) % 8) false) table
unfolding permuted bits_of
chosen_without_parity [] bytes none = refl
chosen_without_parity (k ∷ table) bytes none =
    let parts = and_parts (nat_lt ((k - 1) % 8) 7) (list_all (λ j. nat_lt ((j - 1) % 8) 7) table) none in
    ap (λ (bit : Bool). bit ∷ map (bit_numbered (flat_map (binary 8) bytes)) table)
    (ap (λ (i : ℕ). get_or (flat_map (binary 8) bytes) i false) (let e : k - 1 ≡ 8 * ((k - 1) / 8) + (k - 1) % 8 = omega arith in e)
    ∙ bit_without_parity bytes ((k - 1) / 8) ((k - 1) % 8) (ltb-true _ _ parts.0))
    ∙ ap (λ (bits : List Bool). get_or (flat_map (binary 7) (map (λ n. n / 2) bytes)) (7 * ((k - 1) / 8) + (k - 1) % 8) false ∷ bits) (chosen_without_parity table bytes parts.1)

PC1_without_parity : (bytes : List ℕ) → permuted PC1 (bits_of bytes) ≡ map (λ k. get_or (flat_map (binary 7) (map (λ n. n / 2) bytes)) (7 * ((k - 1) / 8) + (k - 1) % 8) false) PC1
unfolding PC1
PC1_without_parity bytes = chosen_without_parity PC1 bytes refl

-- keys that differ in parity bits alone have one schedule
pub same_schedule : (key other : List ℕ) → SameButParity key other → key_schedule (bits_of key) ≡ key_schedule (bits_of other)
unfolding key_schedule
same_schedule key other same =
    ap (λ (chosen : List Bool). round_keys left_shifts (take 28 chosen) (drop 28 chosen))
    (PC1_without_parity key
    ∙ ap (λ (bytes : List ℕ). map (λ k. get_or (flat_map (binary 7) bytes) (7 * ((k - 1) / 8) + (k - 1) % 8) false) PC1) same
    ∙ sym (PC1_without_parity other))
