-- Deciphering undoes enciphering and the other way round: for any round keys, since a round is undone by
-- the same round with the halves exchanged, whatever the round function is.
use Rattle.std.proofs.Common.{◌≡◌, ℕ, suc, ◌+◌, ◌-◌, ◌<◌, Bool, true, false, List, [], ◌∷◌, ◌++◌, length, take, drop, get_or, map, reverse, refl, sym, ap, ◌∙◌, arith, nat_lt}
use Rattle.std.proofs.Math.Bool.{xor}
use Rattle.std.specs.List.{list_all, range_with_len}
use Rattle.std.proofs.lemmas.Bool.{and_parts, ltb-true}
use Rattle.std.proofs.lemmas.List.{take-append-drop, length-take-le, length-drop, length-append, take_at, drop_at, get_or-map, ext_get_or, reverse-append, reverse-reverse}
use Rattle.std.proofs.lemmas.List.FromFn.{length-map-range_with_len, get_or-map-range_with_len}
use Rattle.des_block.specs.Bits.{IsBlock, IsBytes, bit_numbered, bits_of, bytes_of, permuted, xored}
use Rattle.des_block.specs.Tables.{IP, IP_inverse, P}
use Rattle.des_block.specs.Rounds.{after_rounds, cipher_function, decrypt_bits, encrypt_bits, swapped_halves}
use Rattle.des_block.specs.Schedule.{deciphered, deciphered_with, enciphered, enciphered_with, key_schedule}
use Rattle.des_block.proofs.BitLemmas.{length-permuted}
use Rattle.des_block.proofs.ByteLaws.{bits_of-bytes_of, bytes_of-bits_of, length-bits_of, length-bytes_of, IsBytes-bytes_of}

-- one table and then another: the entries of the second name entries of the first
abbrev composed : List ℕ → List ℕ → List ℕ
composed first second = map (λ k. get_or first (k - 1) 0) second

permuted-permuted : (first second : List ℕ) (bits : List Bool) → list_all (λ k. nat_lt (k - 1) (length first)) second ≡ true → permuted second (permuted first bits) ≡ permuted (composed first second) bits
unfolding permuted
permuted-permuted first [] bits within = refl
permuted-permuted first (k ∷ second) bits within =
    let parts = and_parts (nat_lt (k - 1) (length first)) (list_all (λ j. nat_lt (j - 1) (length first)) second) within in
    ap (λ (b : Bool). b ∷ map (bit_numbered (map (bit_numbered bits) first)) second)
    (get_or-map (bit_numbered bits) first (k - 1) 0 false (ltb-true _ _ parts.0))
    ∙ ap (λ (bs : List Bool). bit_numbered bits (get_or first (k - 1) 0) ∷ bs) (permuted-permuted first second bits parts.1)

-- the table 1, 2, 3 .. leaves the bits as they are
permuted_in_order : (bits : List Bool) (n : ℕ) → length bits ≡ n → permuted (range_with_len 1 n) bits ≡ bits
unfolding permuted
permuted_in_order bits n l =
    ext_get_or false _ _ (length-map-range_with_len (bit_numbered bits) 1 n ∙ sym l)
    (λ i h. let within : i < n = omega (arith, length-map-range_with_len (bit_numbered bits) 1 n) in
    get_or-map-range_with_len (bit_numbered bits) 1 n i (1 + i) false within refl ∙ ap (λ (k : ℕ). get_or bits k false) (let e : 1 + i - 1 ≡ i = omega arith in e))

-- the two tables undo each other
IP_undone : (bits : List Bool) → length bits ≡ 64 → permuted IP_inverse (permuted IP bits) ≡ bits
unfolding IP IP_inverse
IP_undone bits l = permuted-permuted IP IP_inverse bits refl ∙ permuted_in_order bits 64 l

IP_inverse_undone : (bits : List Bool) → length bits ≡ 64 → permuted IP (permuted IP_inverse bits) ≡ bits
unfolding IP IP_inverse
IP_inverse_undone bits l = permuted-permuted IP_inverse IP bits refl ∙ permuted_in_order bits 64 l

length-IP : length IP ≡ 64
unfolding IP
length-IP = refl

length-IP_inverse : length IP_inverse ≡ 64
unfolding IP_inverse
length-IP_inverse = refl

length-cipher_function : (right key : List Bool) → length (cipher_function right key) ≡ 32
unfolding cipher_function P
length-cipher_function right key = length-permuted P _

xor_twice : (a b : Bool) → xor (xor a b) b ≡ a
unfolding xor
xor_twice true true = refl
xor_twice true false = refl
xor_twice false true = refl
xor_twice false false = refl

length-xored : (xs ys : List Bool) → length xs ≡ length ys → length (xored xs ys) ≡ length xs
unfolding xored
length-xored [] ys l = refl
length-xored (x ∷ xs) [] l = absurd (omega arith)
length-xored (x ∷ xs) (y ∷ ys) l = ap suc (length-xored xs ys (omega arith))

-- what is added twice is gone
xored_twice : (xs ys : List Bool) → length xs ≡ length ys → xored (xored xs ys) ys ≡ xs
unfolding xored
xored_twice [] ys l = refl
xored_twice (x ∷ xs) [] l = absurd (omega arith)
xored_twice (x ∷ xs) (y ∷ ys) l =
    ap (λ (b : Bool). b ∷ xored (xored xs ys) ys) (xor_twice x y) ∙ ap (λ (bs : List Bool). x ∷ bs) (xored_twice xs ys (omega arith))

after_rounds-append : (keys more : List (List Bool)) (left right : List Bool) → after_rounds (keys ++ more) left right ≡ after_rounds more (after_rounds keys left right).0 (after_rounds keys left right).1
unfolding after_rounds
after_rounds-append [] more left right = refl
after_rounds-append (key ∷ keys) more left right = after_rounds-append keys more right (xored left (cipher_function right key))

-- two halves of 32 bits
record AreHalves (left right : List Bool) : Type 0 where
  left_long : length left ≡ 32
  right_long : length right ≡ 32

halves_next : (left right key : List Bool) → AreHalves left right → AreHalves right (xored left (cipher_function right key))
halves_next left right key h = record {
  left_long = h.right_long;
  right_long = length-xored left (cipher_function right key) (h.left_long ∙ sym (length-cipher_function right key)) ∙ h.left_long;
}

halves_after : (keys : List (List Bool)) (left right : List Bool) → AreHalves left right → AreHalves (after_rounds keys left right).0 (after_rounds keys left right).1
unfolding after_rounds
halves_after [] left right h = h
halves_after (key ∷ keys) left right h = halves_after keys right (xored left (cipher_function right key)) (halves_next left right key h)

-- the rounds with the keys in reverse order, begun with the halves exchanged, lead back
rounds_undone : (keys : List (List Bool)) (left right : List Bool) → AreHalves left right → after_rounds (reverse keys) (after_rounds keys left right).1 (after_rounds keys left right).0 ≡ (right, left)
unfolding after_rounds
rounds_undone [] left right h = refl
rounds_undone (key ∷ keys) left right h =
    let next = xored left (cipher_function right key) in
    let first = (after_rounds keys right next).1 in
    let second = (after_rounds keys right next).0 in
    ap (λ (ks : List (List Bool)). after_rounds ks first second) (reverse-append (key ∷ []) keys)
    ∙ after_rounds-append (reverse keys) (key ∷ []) first second
    ∙ ap (λ (p : List Bool × List Bool). after_rounds (key ∷ []) p.0 p.1) (rounds_undone keys right next (halves_next left right key h))
    ∙ ap (λ (bs : List Bool). (right, bs)) (xored_twice left (cipher_function right key) (h.left_long ∙ sym (length-cipher_function right key)))

-- the halves of some bits, joined, are these bits, and the other way round
length-swapped : (left right : List Bool) → AreHalves left right → length (right ++ left) ≡ 64
length-swapped left right h = length-append right left ∙ omega (arith, h.left_long, h.right_long)

halves_of_block : (block : List Bool) → length block ≡ 64 → AreHalves (take 32 block) (drop 32 block)
halves_of_block block l = record {
  left_long = length-take-le 32 block (omega arith);
  right_long = length-drop 32 block ∙ omega arith;
}

-- deciphering undoes enciphering
pub encrypt_undone : (keys : List (List Bool)) (block : List Bool) → length block ≡ 64 → decrypt_bits keys (encrypt_bits keys block) ≡ block
unfolding decrypt_bits encrypt_bits
encrypt_undone keys block l =
    let input = permuted IP block in
    let long : length input ≡ 64 = length-permuted IP block ∙ length-IP in
    let halves : AreHalves (take 32 input) (drop 32 input) = halves_of_block input long in
    let left = (after_rounds keys (take 32 input) (drop 32 input)).0 in
    let right = (after_rounds keys (take 32 input) (drop 32 input)).1 in
    let done : AreHalves left right = halves_after keys (take 32 input) (drop 32 input) halves in
    let output : permuted IP (permuted IP_inverse (right ++ left)) ≡ right ++ left = IP_inverse_undone (right ++ left) (length-swapped left right done) in
    ap (λ (bits : List Bool). permuted IP_inverse (swapped_halves (after_rounds (reverse keys) (take 32 bits) (drop 32 bits)))) output
    ∙ ap (λ (bits : List Bool). permuted IP_inverse (swapped_halves (after_rounds (reverse keys) bits (drop 32 (right ++ left))))) (take_at right left 32 done.right_long)
    ∙ ap (λ (bits : List Bool). permuted IP_inverse (swapped_halves (after_rounds (reverse keys) right bits))) (drop_at right left 32 done.right_long)
    ∙ ap (λ (p : List Bool × List Bool). permuted IP_inverse (swapped_halves p)) (rounds_undone keys (take 32 input) (drop 32 input) halves)
    ∙ ap (λ (bits : List Bool). permuted IP_inverse bits) (take-append-drop 32 input)
    ∙ IP_undone block l

-- enciphering undoes deciphering
pub decrypt_undone : (keys : List (List Bool)) (block : List Bool) → length block ≡ 64 → encrypt_bits keys (decrypt_bits keys block) ≡ block
unfolding decrypt_bits
decrypt_undone keys block l =
    ap (λ (ks : List (List Bool)). encrypt_bits ks (encrypt_bits (reverse keys) block)) (sym (reverse-reverse keys))
    ∙ encrypt_undone (reverse keys) block l

pub length-encrypt_bits : (keys : List (List Bool)) (block : List Bool) → length (encrypt_bits keys block) ≡ 64
unfolding encrypt_bits
length-encrypt_bits keys block = length-permuted IP_inverse _ ∙ length-IP_inverse

pub length-decrypt_bits : (keys : List (List Bool)) (block : List Bool) → length (decrypt_bits keys block) ≡ 64
unfolding decrypt_bits
length-decrypt_bits keys block = length-encrypt_bits (reverse keys) block

block_bits : (block : List ℕ) → length block ≡ 8 → length (bits_of block) ≡ 64
block_bits block l = length-bits_of block ∙ omega arith

block_again : (block : List ℕ) → IsBlock block → bytes_of 8 (bits_of block) ≡ block
block_again block h = ap (λ (n : ℕ). bytes_of n (bits_of block)) (sym h.whole) ∙ bytes_of-bits_of block h.bytes

-- the same of blocks of bytes
pub enciphered_with_undone : (keys : List (List Bool)) (block : List ℕ) → IsBlock block → deciphered_with keys (enciphered_with keys block) ≡ block
unfolding deciphered_with enciphered_with
enciphered_with_undone keys block h =
    ap (λ (bits : List Bool). bytes_of 8 (decrypt_bits keys bits)) (bits_of-bytes_of 8 _ (length-encrypt_bits keys (bits_of block)))
    ∙ ap (λ (bits : List Bool). bytes_of 8 bits) (encrypt_undone keys (bits_of block) (block_bits block h.whole))
    ∙ block_again block h

pub deciphered_with_undone : (keys : List (List Bool)) (block : List ℕ) → IsBlock block → enciphered_with keys (deciphered_with keys block) ≡ block
unfolding deciphered_with enciphered_with
deciphered_with_undone keys block h =
    ap (λ (bits : List Bool). bytes_of 8 (encrypt_bits keys bits)) (bits_of-bytes_of 8 _ (length-decrypt_bits keys (bits_of block)))
    ∙ ap (λ (bits : List Bool). bytes_of 8 bits) (decrypt_undone keys (bits_of block) (block_bits block h.whole))
    ∙ block_again block h

-- deciphering under a key undoes enciphering under it
pub enciphered_undone : (key block : List ℕ) → IsBlock block → deciphered key (enciphered key block) ≡ block
unfolding deciphered enciphered
enciphered_undone key block h = enciphered_with_undone (key_schedule (bits_of key)) block h

-- enciphering under a key undoes deciphering under it
pub deciphered_undone : (key block : List ℕ) → IsBlock block → enciphered key (deciphered key block) ≡ block
unfolding deciphered enciphered
deciphered_undone key block h = deciphered_with_undone (key_schedule (bits_of key)) block h

-- the results are blocks of eight bytes
pub length-enciphered : (key block : List ℕ) → length (enciphered key block) ≡ 8
unfolding enciphered enciphered_with
length-enciphered key block = length-bytes_of 8 _

pub length-deciphered : (key block : List ℕ) → length (deciphered key block) ≡ 8
unfolding deciphered deciphered_with
length-deciphered key block = length-bytes_of 8 _

pub IsBytes-enciphered : (key block : List ℕ) → IsBytes (enciphered key block)
unfolding enciphered enciphered_with
IsBytes-enciphered key block = IsBytes-bytes_of 8 _ (length-encrypt_bits (key_schedule (bits_of key)) (bits_of block))

pub IsBytes-deciphered : (key block : List ℕ) → IsBytes (deciphered key block)
unfolding deciphered deciphered_with
IsBytes-deciphered key block = IsBytes-bytes_of 8 _ (length-decrypt_bits (key_schedule (bits_of key)) (bits_of block))
