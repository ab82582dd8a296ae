-- Bytes and bits: what is spelled in bits is read again, both ways.
use Rattle.std.proofs.Common.{◌≡◌, ℕ, zero, suc, ◌+◌, ◌*◌, ◌/◌, ◌%◌, ◌^◌, ◌<◌, ◌≤◌, Bool, true, false, List, [], ◌∷◌, ◌++◌, length, take, drop, refl, sym, ap, ◌∙◌, arith}
use Rattle.std.specs.Bool.{◌==◌}
use Rattle.std.proofs.Math.Nat.{pow-suc, div-div-eq-div-mul, div-one, mod-one, mul-le-mul_left}
use Rattle.std.proofs.lemmas.Nat.{mod-pow-add, mod_below}
use Rattle.std.proofs.lemmas.List.{take-append-drop, length-take-le, length-drop, length-append, nil_from_length}
use Rattle.std.proofs.lemmas.List.Elements.{All-head, All-tail, All-nil, All-cons}
use Rattle.std.specs.Int.{from_bool}
use Rattle.std.specs.List.{flat_map}
use Rattle.des_block.specs.Bits.{IsBytes, binary, bits_of, bytes_of, number_behind, number_of}
use Rattle.des_block.proofs.BitLemmas.{from_bool-small}

pub length-binary : (width n : ℕ) → length (binary width n) ≡ width
length-binary zero n = refl
length-binary (suc width) n = ap suc (length-binary width n)

-- a number behind n, divided by the weight of n, is n
number_above : (n : ℕ) (bits : List Bool) → number_behind n bits / 2 ^ length bits ≡ n
number_above n [] = div-one n
number_above n (bit ∷ bits) =
    ap (λ (k : ℕ). number_behind (2 * n + from_bool bit) bits / k) (pow-suc 2 (length bits))
    ∙ sym (div-div-eq-div-mul (number_behind (2 * n + from_bool bit) bits) (2 ^ length bits) 2)
    ∙ ap (λ (k : ℕ). k / 2) (number_above (2 * n + from_bool bit) bits)
    ∙ omega (arith, from_bool-small bit)

lowest_bit : (n : ℕ) (bit : Bool) → ((2 * n + from_bool bit) % 2 == 1) ≡ bit
lowest_bit n true = ap (λ (k : ℕ). k == 1) (let e : (2 * n + 1) % 2 ≡ 1 = omega arith in e)
lowest_bit n false = ap (λ (k : ℕ). k == 1) (let e : (2 * n + 0) % 2 ≡ 0 = omega arith in e)

-- the digits of a number that bits spell are these bits
pub binary-number : (n : ℕ) (bits : List Bool) → binary (length bits) (number_behind n bits) ≡ bits
binary-number n [] = refl
binary-number n (bit ∷ bits) =
    ap (λ (b : Bool). b ∷ binary (length bits) (number_behind (2 * n + from_bool bit) bits))
    (ap (λ (k : ℕ). k % 2 == 1) (number_above (2 * n + from_bool bit) bits) ∙ lowest_bit n bit)
    ∙ ap (λ (bs : List Bool). bit ∷ bs) (binary-number (2 * n + from_bool bit) bits)

digit_is : (r : ℕ) → r < 2 → from_bool (r == 1) ≡ r
digit_is zero l = refl
digit_is (suc zero) l = refl
digit_is (suc (suc r)) l = absurd (omega arith)

one_digit_more : (m digit weight rest weights whole : ℕ) → weights ≡ weight * 2 → whole ≡ digit * weight + rest → (2 * m + digit) * weight + rest ≡ m * weights + whole
one_digit_more m digit weight rest weights whole e f = rw (e, f) (omega arith)

-- the number that the lowest bits of n spell behind m
pub number-binary : (m width n : ℕ) → number_behind m (binary width n) ≡ m * 2 ^ width + n % 2 ^ width
number-binary m zero n = omega (arith, mod-one n)
number-binary m (suc width) n =
    number-binary (2 * m + from_bool (n / 2 ^ width % 2 == 1)) width n
    ∙ ap (λ (k : ℕ). (2 * m + k) * 2 ^ width + n % 2 ^ width) (digit_is (n / 2 ^ width % 2) (mod_below _ 2 (omega arith)))
    ∙ one_digit_more m (n / 2 ^ width % 2) (2 ^ width) (n % 2 ^ width) _ _ (pow-suc 2 width)
    (ap (λ (k : ℕ). n % 2 ^ k) (let e : suc width ≡ 1 + width = omega arith in e) ∙ mod-pow-add n 1 width)

pub length-bits_of : (bytes : List ℕ) → length (bits_of bytes) ≡ 8 * length bytes
unfolding bits_of
length-bits_of [] = refl
length-bits_of (byte ∷ bytes) = length-append (binary 8 byte) (flat_map (binary 8) bytes) ∙ omega (arith, length-bits_of bytes)

pub length-bytes_of : (count : ℕ) (bits : List Bool) → length (bytes_of count bits) ≡ count
unfolding bytes_of
length-bytes_of zero bits = refl
length-bytes_of (suc count) bits = ap suc (length-bytes_of count (drop 8 bits))

one_bit_more : (number n bit weight weights : ℕ) → number + 1 ≤ (2 * n + bit + 1) * weight → bit ≤ 1 → weights ≡ weight * 2 → number + 1 ≤ (n + 1) * weights
one_bit_more number n bit weight weights l b e =
    let more : weight * (2 * n + bit + 1) ≤ weight * (2 * n + 2) = mul-le-mul_left weight (omega arith) in
    rw e (omega arith)

number_small : (n : ℕ) (bits : List Bool) → number_behind n bits + 1 ≤ (n + 1) * 2 ^ length bits
number_small n [] = omega arith
number_small n (bit ∷ bits) = one_bit_more _ n _ _ _ (number_small (2 * n + from_bool bit) bits) (from_bool-small bit) (pow-suc 2 (length bits))

-- what eight bits each spell are bytes
pub IsBytes-bytes_of : (count : ℕ) (bits : List Bool) → length bits ≡ 8 * count → IsBytes (bytes_of count bits)
unfolding bytes_of
IsBytes-bytes_of zero bits l = All-nil (λ n. n < 256)
IsBytes-bytes_of (suc count) bits l =
    All-cons (λ n. n < 256) _ _
    (let e : length (take 8 bits) ≡ 8 = length-take-le 8 bits (omega arith) in
    let below : number_of (take 8 bits) + 1 ≤ 1 * 2 ^ length (take 8 bits) = number_small 0 (take 8 bits) in
    let at_8 : 1 * 2 ^ length (take 8 bits) ≡ 256 = ap (λ (k : ℕ). 1 * 2 ^ k) e in
    omega arith)
    (IsBytes-bytes_of count (drop 8 bits) (omega (arith, length-drop 8 bits)))

-- the bits of the bytes that bits spell
pub bits_of-bytes_of : (count : ℕ) (bits : List Bool) → length bits ≡ 8 * count → bits_of (bytes_of count bits) ≡ bits
unfolding bits_of bytes_of
bits_of-bytes_of zero bits l = sym (nil_from_length bits (omega arith))
bits_of-bytes_of (suc count) bits l =
    ap (λ (bs : List Bool). bs ++ flat_map (binary 8) (bytes_of count (drop 8 bits)))
    (sym (ap (λ (k : ℕ). binary k (number_of (take 8 bits))) (length-take-le 8 bits (omega arith))) ∙ binary-number 0 (take 8 bits))
    ∙ ap (λ (bs : List Bool). take 8 bits ++ bs) (bits_of-bytes_of count (drop 8 bits) (omega (arith, length-drop 8 bits)))
    ∙ take-append-drop 8 bits

-- the bytes that the bits of bytes spell
pub bytes_of-bits_of : (bytes : List ℕ) → IsBytes bytes → bytes_of (length bytes) (bits_of bytes) ≡ bytes
unfolding bits_of bytes_of
bytes_of-bits_of [] small = refl
bytes_of-bits_of (byte ∷ bytes) small =
    ap (λ (n : ℕ). n ∷ bytes_of (length bytes) (flat_map (binary 8) bytes))
    (number-binary 0 8 byte ∙ omega (arith, All-head (λ n. n < 256) byte bytes small))
    ∙ ap (λ (ns : List ℕ). byte ∷ ns) (bytes_of-bits_of bytes (All-tail (λ n. n < 256) byte bytes small))
