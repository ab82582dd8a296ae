-- Words and the bits that they spell: sums, digits and halves of words are those of their bits, and a look-up in rows
-- that agree with a table permutes.
use Rattle.std.proofs.Common.{◌≡◌, ℕ, zero, suc, ◌+◌, ◌-◌, ◌*◌, ◌/◌, ◌%◌, ◌^◌, ◌<◌, ◌≤◌, ◌==◌, Bool, true, false, List, [], ◌∷◌, ◌++◌, length, take, drop, map, get_or, reverse, refl, sym, ap, ◌∙◌, arith, bit_and, bit_or, bit_xor, subst, append_assoc, append-nil, pow-add, eqb-true, take-add, take_all}
use Rattle.std.proofs.Math.Bool.{xor}
use Rattle.std.proofs.Math.Pow.{shr_lt}
use Rattle.std.proofs.lemmas.Nat.{and_mask, or_shifted, shl_whole, from_be_bytes-to_be_bytes_8}
use Rattle.std.proofs.Math.Nat.{div-div-eq-div-mul, zero-div}
use Rattle.std.specs.Int.{bit_at, from_bool, from_be_bytes, to_be_bytes, w64}
use Rattle.std.proofs.lemmas.Nat.Bits.{bit_at_xor, bit_at_cat_low, bit_at_cat_high, bit_at-lt}
use Rattle.std.proofs.lemmas.Bool.{and_parts}
use Rattle.std.proofs.lemmas.List.Elements.{All-get_or, All-from_get_or}
use Rattle.std.proofs.lemmas.List.{length-replicate, length-take-le, length-drop, length-append, reverse-append, map-append}
use Rattle.des_block.specs.Bits.{IsBytes, binary, bit_numbered, bits_of, bytes_of, number_behind, number_of, permuted, xored}
use Rattle.des_block.specs.Schedule.{shifted_left}
use Rattle.des_block.specs.Rows.{zeros, placed, is_row, are_rows}
use Rattle.des_block.proofs.BitLemmas.{length-permuted}
use Rattle.des_block.proofs.ByteLaws.{binary-number, bytes_of-bits_of, length-binary, length-bits_of, number-binary}

-- ---- the bits of a sum

bits_added : (x y : ℕ) → x < 2 → y < 2 → ((x + y) % 2 == 1) ≡ xor (x == 1) (y == 1)
unfolding xor
bits_added zero zero l m = refl
bits_added zero (suc zero) l m = refl
bits_added (suc zero) zero l m = refl
bits_added (suc zero) (suc zero) l m = refl
bits_added (suc (suc x)) y l m = absurd (omega arith)
bits_added zero (suc (suc y)) l m = absurd (omega arith)
bits_added (suc zero) (suc (suc y)) l m = absurd (omega arith)

pub binary_xor : (width a b : ℕ) → binary width (bit_xor a b) ≡ xored (binary width a) (binary width b)
unfolding xored
binary_xor zero a b = refl
binary_xor (suc width) a b =
    ap (λ (bit : Bool). bit ∷ binary width (bit_xor a b)) (ap (λ (n : ℕ). n == 1) (bit_at_xor a b width) ∙ bits_added (bit_at a width) (bit_at b width) (bit_at-lt a width) (bit_at-lt b width))
    ∙ ap (λ (bits : List Bool). xor (bit_at a width == 1) (bit_at b width == 1) ∷ bits) (binary_xor width a b)

-- ---- parts of a word

pub binary_high : (width k n : ℕ) → binary width (n / 2 ^ k) ≡ take width (binary (width + k) n)
binary_high zero k n = refl
binary_high (suc width) k n =
    let more : suc width + k ≡ suc (width + k) = omega arith in
    let head : n / 2 ^ k / 2 ^ width ≡ n / 2 ^ (width + k) = div-div-eq-div-mul n (2 ^ k) (2 ^ width) ∙ ap (λ (m : ℕ). n / m) (sym (pow-add 2 k width) ∙ ap (λ (e : ℕ). 2 ^ e) (omega arith)) in
    ap (λ (m : ℕ). (m % 2 == 1) ∷ binary width (n / 2 ^ k)) head
    ∙ ap (λ (bits : List Bool). (n / 2 ^ (width + k) % 2 == 1) ∷ bits) (binary_high width k n)
    ∙ ap (λ (w : ℕ). take (suc width) (binary w n)) (sym more)

pub binary_low : (width k n : ℕ) → drop width (binary (width + k) n) ≡ binary k n
binary_low zero k n = ap (λ (w : ℕ). binary w n) (omega arith)
binary_low (suc width) k n =
    let more : suc width + k ≡ suc (width + k) = omega arith in
    ap (λ (w : ℕ). drop (suc width) (binary w n)) more ∙ binary_low width k n

-- the bits from one on, so many
pub binary_mid : (before width behind n : ℕ) → take width (drop before (binary (before + (width + behind)) n)) ≡ binary width (n / 2 ^ behind)
binary_mid before width behind n = ap (take width) (binary_low before (width + behind) n) ∙ sym (binary_high width behind n)

pub low_bits : (width k a b : ℕ) → width ≤ k → binary width (a * 2 ^ k + b) ≡ binary width b
low_bits zero k a b l = refl
low_bits (suc width) k a b l =
    ap (λ (m : ℕ). (m == 1) ∷ binary width (a * 2 ^ k + b)) (bit_at_cat_low a k b width (omega arith))
    ∙ ap (λ (bits : List Bool). (bit_at b width == 1) ∷ bits) (low_bits width k a b (omega arith))

pub binary_cat : (width k a b : ℕ) → b < 2 ^ k → binary (width + k) (a * 2 ^ k + b) ≡ binary width a ++ binary k b
binary_cat zero k a b l = ap (λ (w : ℕ). binary w (a * 2 ^ k + b)) (omega arith) ∙ low_bits k k a b (omega arith)
binary_cat (suc width) k a b l =
    let more : suc width + k ≡ suc (width + k) = omega arith in
    let place : width + k - k ≡ width = omega arith in
    ap (λ (w : ℕ). binary w (a * 2 ^ k + b)) more
    ∙ ap (λ (m : ℕ). (m == 1) ∷ binary (width + k) (a * 2 ^ k + b)) (bit_at_cat_high a k b (width + k) l (omega arith) ∙ ap (bit_at a) place)
    ∙ ap (λ (bits : List Bool). (bit_at a width == 1) ∷ bits) (binary_cat width k a b l)

-- ---- sums of lists of bits

pub xored_take : (n : ℕ) (xs ys : List Bool) → take n (xored xs ys) ≡ xored (take n xs) (take n ys)
unfolding xored
xored_take zero xs ys = refl
xored_take (suc n) [] ys = refl
xored_take (suc n) (x ∷ xs) [] = refl
xored_take (suc n) (x ∷ xs) (y ∷ ys) = ap (λ (bits : List Bool). xor x y ∷ bits) (xored_take n xs ys)

pub xored_drop : (n : ℕ) (xs ys : List Bool) → length xs ≡ length ys → drop n (xored xs ys) ≡ xored (drop n xs) (drop n ys)
unfolding xored
xored_drop zero xs ys l = refl
xored_drop (suc n) [] [] l = refl
xored_drop (suc n) [] (y ∷ ys) l = absurd (omega arith)
xored_drop (suc n) (x ∷ xs) [] l = absurd (omega arith)
xored_drop (suc n) (x ∷ xs) (y ∷ ys) l = xored_drop n xs ys (omega arith)

bit_of_sum : (xs ys : List Bool) (i : ℕ) → length xs ≡ length ys → get_or (xored xs ys) i false ≡ xor (get_or xs i false) (get_or ys i false)
unfolding xored xor
bit_of_sum [] [] i l = refl
bit_of_sum [] (y ∷ ys) i l = absurd (omega arith)
bit_of_sum (x ∷ xs) [] i l = absurd (omega arith)
bit_of_sum (x ∷ xs) (y ∷ ys) zero l = refl
bit_of_sum (x ∷ xs) (y ∷ ys) (suc i) l = bit_of_sum xs ys i (omega arith)

-- a table permutes a sum as it permutes what is added
pub permuted_xored : (table : List ℕ) (xs ys : List Bool) → length xs ≡ length ys → permuted table (xored xs ys) ≡ xored (permuted table xs) (permuted table ys)
unfolding permuted xored
permuted_xored [] xs ys l = refl
permuted_xored (k ∷ table) xs ys l =
    ap (λ (bit : Bool). bit ∷ map (bit_numbered (xored xs ys)) table) (bit_of_sum xs ys (k - 1) l)
    ∙ ap (λ (bits : List Bool). xor (bit_numbered xs k) (bit_numbered ys k) ∷ bits) (permuted_xored table xs ys l)

zero_left : (xs : List Bool) → xored (zeros (length xs)) xs ≡ xs
unfolding xored xor
zero_left [] = refl
zero_left (true ∷ xs) = ap (λ (bits : List Bool). true ∷ bits) (zero_left xs)
zero_left (false ∷ xs) = ap (λ (bits : List Bool). false ∷ bits) (zero_left xs)

-- the front of some bits, and what stands behind it, each with zeros in the other's place
pub one_more_part : (front bits : List Bool) → xored (front ++ zeros (length bits)) (zeros (length front) ++ bits) ≡ front ++ bits
unfolding xored xor
one_more_part [] bits = zero_left bits
one_more_part (true ∷ front) bits = ap (λ (rest : List Bool). true ∷ rest) (one_more_part front bits)
one_more_part (false ∷ front) bits = ap (λ (rest : List Bool). false ∷ rest) (one_more_part front bits)

-- ---- rows

row_entry : (table : List ℕ) (before behind n : ℕ) (entries : List ℕ) (j : ℕ) → is_row table before behind n entries ≡ true → j < length entries → get_or entries j 0 ≡ number_of (permuted table (placed before (binary 4 (n + j)) behind))
row_entry table before behind n [] j e l = absurd (omega arith)
row_entry table before behind n (entry ∷ entries) zero e l =
    let here = (and_parts (entry == number_of (permuted table (placed before (binary 4 n) behind))) (is_row table before behind (n + 1) entries) e).0 in
    eqb-true _ _ here ∙ ap (λ (m : ℕ). number_of (permuted table (placed before (binary 4 m) behind))) (omega arith)
row_entry table before behind n (entry ∷ entries) (suc j) e l =
    let more = (and_parts (entry == number_of (permuted table (placed before (binary 4 n) behind))) (is_row table before behind (n + 1) entries) e).1 in
    row_entry table before behind (n + 1) entries j more (omega arith)
    ∙ ap (λ (m : ℕ). number_of (permuted table (placed before (binary 4 m) behind))) (omega arith)

row_length : (table : List ℕ) (before behind n : ℕ) (entries : List ℕ) → is_row table before behind n entries ≡ true → n + length entries ≡ 16
row_length table before behind n [] e = omega (arith, eqb-true n 16 e)
row_length table before behind n (entry ∷ entries) e =
    let more = (and_parts (entry == number_of (permuted table (placed before (binary 4 n) behind))) (is_row table before behind (n + 1) entries) e).1 in
    omega (arith, row_length table before behind (n + 1) entries more)

-- what an entry of the rows spells
rows_entry : (table : List ℕ) (before : ℕ) (rows : List (List ℕ)) (i j : ℕ) → are_rows table before rows ≡ true → i < length rows → j < 16 → get_or (get_or rows i []) j 0 ≡ number_of (permuted table (placed (before + 4 * i) (binary 4 j) (4 * (length rows - 1 - i))))
rows_entry table before [] i j e l m = absurd (omega arith)
rows_entry table before (row ∷ rows) zero j e l m =
    let here = (and_parts (is_row table before (4 * length rows) 0 row) (are_rows table (before + 4) rows) e).0 in
    row_entry table before (4 * length rows) 0 row j here (omega (arith, row_length table before (4 * length rows) 0 row here))
    ∙ same (omega arith) (omega arith) (omega arith)
  where
    same : {b c : ℕ} {d n f g : ℕ} → b ≡ c → d ≡ n → f ≡ g → number_of (permuted table (placed b (binary 4 d) f)) ≡ number_of (permuted table (placed c (binary 4 n) g))
    same e f g = rw (e, f, g) refl
rows_entry table before (row ∷ rows) (suc i) j e l m =
    let more = (and_parts (is_row table before (4 * length rows) 0 row) (are_rows table (before + 4) rows) e).1 in
    rows_entry table (before + 4) rows i j more (omega arith) m
    ∙ same (omega arith) (omega arith)
  where
    same : {b c : ℕ} {f g : ℕ} → b ≡ c → f ≡ g → number_of (permuted table (placed b (binary 4 j) f)) ≡ number_of (permuted table (placed c (binary 4 j) g))
    same e g = rw (e, g) refl

entry_bits : (table : List ℕ) (rows : List (List ℕ)) (i j : ℕ) → are_rows table 0 rows ≡ true → i < length rows → j < 16 → binary (length table) (get_or (get_or rows i []) j 0) ≡ permuted table (placed (4 * i) (binary 4 j) (4 * (length rows - 1 - i)))
entry_bits table rows i j e l m =
    let bits = permuted table (placed (4 * i) (binary 4 j) (4 * (length rows - 1 - i))) in
    ap (λ (n : ℕ). binary (length table) n) (rows_entry table 0 rows i j e l m ∙ ap (λ (b : ℕ). number_of (permuted table (placed b (binary 4 j) (4 * (length rows - 1 - i))))) (omega arith))
    ∙ ap (λ (n : ℕ). binary n (number_of bits)) (sym (length-permuted table _))
    ∙ binary-number 0 bits

-- ---- a look-up

-- of some bits the first 4 i, and zeros in the place of the others
abbrev pub begun : ℕ → ℕ → List Bool → List Bool
begun n i bits = take (4 * i) bits ++ zeros (4 * (n - i))

low_digit : (n : ℕ) → binary 4 (n % 16) ≡ binary 4 n
low_digit n = sym (low_bits 4 4 (n / 16) (n % 16) (omega arith)) ∙ ap (binary 4) (omega arith)

pub one_digit_more : (n i : ℕ) (bits four : List Bool) → i < n → length bits ≡ 4 * n → four ≡ take 4 (drop (4 * i) bits) → xored (begun n i bits) (placed (4 * i) four (4 * (n - 1 - i))) ≡ begun n (i + 1) bits
one_digit_more n i bits four l long is =
    let front = take (4 * i) bits in
    let rest = zeros (4 * (n - 1 - i)) in
    let front_long : length front ≡ 4 * i = length-take-le (4 * i) bits (omega (arith, long)) in
    let four_long : length four ≡ 4 = ap length is ∙ length-take-le 4 (drop (4 * i) bits) (omega (arith, long, length-drop (4 * i) bits)) in
    let rest_long : length rest ≡ 4 * (n - 1 - i) = length-replicate (4 * (n - 1 - i)) false in
    let behind : 4 * (n - i) ≡ length (four ++ rest) = omega (arith, length-append four rest, four_long, rest_long) in
    let more : front ++ four ≡ take (4 * (i + 1)) bits =
    ap (λ (bs : List Bool). front ++ bs) is ∙ sym (take-add (4 * i) 4 bits) ∙ ap (λ (k : ℕ). take k bits) (let e : 4 * i + 4 ≡ 4 * (i + 1) = omega arith in e) in
    let left : 4 * (n - 1 - i) ≡ 4 * (n - (i + 1)) = omega arith in
    ap (λ (k : ℕ). xored (front ++ zeros k) (placed (4 * i) four (4 * (n - 1 - i)))) behind
    ∙ ap (λ (k : ℕ). xored (front ++ zeros (length (four ++ rest))) (zeros k ++ (four ++ rest))) (sym front_long)
    ∙ one_more_part front (four ++ rest)
    ∙ sym (append_assoc front four rest)
    ∙ ap (λ (bs : List Bool). bs ++ rest) more
    ∙ ap (λ (k : ℕ). take (4 * (i + 1)) bits ++ zeros k) left

pub look_up_step : (table : List ℕ) (rows : List (List ℕ)) (word sum i : ℕ) → are_rows table 0 rows ≡ true → i < length rows
    → binary (length table) sum ≡ permuted table (begun (length rows) i (binary (4 * length rows) word))
    → binary (length table) (bit_xor sum (get_or (get_or rows i []) (word / 2 ^ (4 * (length rows - 1 - i)) % 16) 0)) ≡ permuted table (begun (length rows) (i + 1) (binary (4 * length rows) word))
look_up_step table rows word sum i e l h =
    let n = length rows in
    let bits = binary (4 * n) word in
    let digit = word / 2 ^ (4 * (n - 1 - i)) % 16 in
    let split : 4 * n ≡ 4 * i + (4 + 4 * (n - 1 - i)) = omega arith in
    let long : length bits ≡ 4 * n = length-binary (4 * n) word in
    let four : binary 4 digit ≡ take 4 (drop (4 * i) bits) =
    low_digit (word / 2 ^ (4 * (n - 1 - i))) ∙ sym (binary_mid (4 * i) 4 (4 * (n - 1 - i)) word)
    ∙ ap (λ (w : ℕ). take 4 (drop (4 * i) (binary w word))) (sym split) in
    let done_long : length (begun n i bits) ≡ 4 * n =
    length-append (take (4 * i) bits) (zeros (4 * (n - i))) ∙ omega (arith, length-take-le (4 * i) bits (omega (arith, long)), length-replicate (4 * (n - i)) false) in
    let rest_long : length (binary 4 digit ++ zeros (4 * (n - 1 - i))) ≡ 4 + 4 * (n - 1 - i) =
    length-append (binary 4 digit) (zeros (4 * (n - 1 - i))) ∙ omega (arith, length-binary 4 digit, length-replicate (4 * (n - 1 - i)) false) in
    let here_long : length (placed (4 * i) (binary 4 digit) (4 * (n - 1 - i))) ≡ 4 * n =
    length-append (zeros (4 * i)) (binary 4 digit ++ zeros (4 * (n - 1 - i))) ∙ omega (arith, rest_long, length-replicate (4 * i) false) in
    binary_xor (length table) sum (get_or (get_or rows i []) digit 0)
    ∙ ap (λ (bs : List Bool). xored bs (binary (length table) (get_or (get_or rows i []) digit 0))) h
    ∙ ap (λ (bs : List Bool). xored (permuted table (begun n i bits)) bs) (entry_bits table rows i digit e l (omega arith))
    ∙ sym (permuted_xored table (begun n i bits) (placed (4 * i) (binary 4 digit) (4 * (n - 1 - i))) (done_long ∙ sym here_long))
    ∙ ap (permuted table) (one_digit_more n i bits (binary 4 digit) l long four)

-- nothing is looked up yet
no_bit : (n k : ℕ) → get_or (zeros n) k false ≡ false
no_bit zero k = refl
no_bit (suc n) zero = refl
no_bit (suc n) (suc k) = no_bit n k

zeros_permuted : (table : List ℕ) (n : ℕ) → binary (length table) 0 ≡ permuted table (zeros n)
unfolding permuted
zeros_permuted [] n = refl
zeros_permuted (k ∷ table) n =
    ap (λ (m : ℕ). (m % 2 == 1) ∷ binary (length table) 0) (zero-div (2 ^ length table))
    ∙ ap (λ (bits : List Bool). false ∷ bits) (zeros_permuted table n)
    ∙ ap (λ (bit : Bool). bit ∷ map (bit_numbered (zeros n)) table) (sym (no_bit n (k - 1)))

pub look_up_begin : (table : List ℕ) (n : ℕ) (bits : List Bool) → binary (length table) 0 ≡ permuted table (begun n 0 bits)
look_up_begin table n bits = zeros_permuted table (4 * (n - 0))

-- all is looked up
pub look_up_end : (n i : ℕ) (bits : List Bool) → length bits ≡ 4 * n → n ≤ i → begun n i bits ≡ bits
look_up_end n i bits long l =
    ap (λ (k : ℕ). take (4 * i) bits ++ zeros k) (let e : 4 * (n - i) ≡ 0 = omega arith in e)
    ∙ append-nil (take (4 * i) bits) ∙ take_all (4 * i) bits (omega (arith, long))

-- ---- words and bytes

number_append : (m : ℕ) (xs ys : List Bool) → number_behind m (xs ++ ys) ≡ number_behind (number_behind m xs) ys
number_append m [] ys = refl
number_append m (x ∷ xs) ys = number_append (2 * m + from_bool x) xs ys

-- one more byte in front of the others
byte_more : (m byte : ℕ) (bytes : List ℕ) → byte < 256 → number_behind m (bits_of (byte ∷ bytes)) ≡ number_behind (m * 256 + byte) (bits_of bytes)
unfolding bits_of
byte_more m byte bytes l =
    number_append m (binary 8 byte) (bits_of bytes)
    ∙ ap (λ (n : ℕ). number_behind n (bits_of bytes)) (number-binary m 8 byte ∙ omega arith)

byte_last : (m byte : ℕ) → byte < 256 → number_behind m (bits_of (byte ∷ [])) ≡ m * 256 + byte
unfolding bits_of
byte_last m byte l = number-binary m 8 byte ∙ omega arith

eight_bytes : (a b c d e f g h : ℕ) → a < 256 → b < 256 → c < 256 → d < 256 → e < 256 → f < 256 → g < 256 → h < 256 → from_be_bytes w64 (a ∷ b ∷ c ∷ d ∷ e ∷ f ∷ g ∷ h ∷ []) ≡ number_of (bits_of (a ∷ b ∷ c ∷ d ∷ e ∷ f ∷ g ∷ h ∷ []))
eight_bytes a b c d e f g h la lb lc ld le lf lg lh = sym (
    byte_more 0 a (b ∷ c ∷ d ∷ e ∷ f ∷ g ∷ h ∷ []) la
    ∙ byte_more (0 * 256 + a) b (c ∷ d ∷ e ∷ f ∷ g ∷ h ∷ []) lb
    ∙ byte_more ((0 * 256 + a) * 256 + b) c (d ∷ e ∷ f ∷ g ∷ h ∷ []) lc
    ∙ byte_more (((0 * 256 + a) * 256 + b) * 256 + c) d (e ∷ f ∷ g ∷ h ∷ []) ld
    ∙ byte_more ((((0 * 256 + a) * 256 + b) * 256 + c) * 256 + d) e (f ∷ g ∷ h ∷ []) le
    ∙ byte_more (((((0 * 256 + a) * 256 + b) * 256 + c) * 256 + d) * 256 + e) f (g ∷ h ∷ []) lf
    ∙ byte_more ((((((0 * 256 + a) * 256 + b) * 256 + c) * 256 + d) * 256 + e) * 256 + f) g (h ∷ []) lg
    ∙ byte_last (((((((0 * 256 + a) * 256 + b) * 256 + c) * 256 + d) * 256 + e) * 256 + f) * 256 + g) h lh
    ∙ omega arith)

be_number : (bytes : List ℕ) → length bytes ≡ 8 → IsBytes bytes → from_be_bytes w64 bytes ≡ number_of (bits_of bytes)
be_number (a ∷ b ∷ c ∷ d ∷ e ∷ f ∷ g ∷ h ∷ []) long are =
    let at : (i : ℕ) → i < 8 → get_or (a ∷ b ∷ c ∷ d ∷ e ∷ f ∷ g ∷ h ∷ []) i 0 < 256 = λ i l. All-get_or (λ n. n < 256) (a ∷ b ∷ c ∷ d ∷ e ∷ f ∷ g ∷ h ∷ []) i 0 (omega (arith, l, long)) are in
    eight_bytes a b c d e f g h (at 0 (omega arith)) (at 1 (omega arith)) (at 2 (omega arith)) (at 3 (omega arith)) (at 4 (omega arith)) (at 5 (omega arith)) (at 6 (omega arith)) (at 7 (omega arith))
be_number [] long are = absurd (omega arith)
be_number (a ∷ []) long are = absurd (omega arith)
be_number (a ∷ b ∷ []) long are = absurd (omega arith)
be_number (a ∷ b ∷ c ∷ []) long are = absurd (omega arith)
be_number (a ∷ b ∷ c ∷ d ∷ []) long are = absurd (omega arith)
be_number (a ∷ b ∷ c ∷ d ∷ e ∷ []) long are = absurd (omega arith)
be_number (a ∷ b ∷ c ∷ d ∷ e ∷ f ∷ []) long are = absurd (omega arith)
be_number (a ∷ b ∷ c ∷ d ∷ e ∷ f ∷ g ∷ []) long are = absurd (omega arith)
be_number (a ∷ b ∷ c ∷ d ∷ e ∷ f ∷ g ∷ h ∷ i ∷ bytes) long are = absurd (omega arith)

-- the bits of a word are those of its bytes, the high one first
pub word_bits : (bytes : List ℕ) (word : ℕ) → length bytes ≡ 8 → IsBytes bytes → word ≡ from_be_bytes w64 bytes → binary 64 word ≡ bits_of bytes
word_bits bytes word long are is =
    ap (binary 64) (is ∙ be_number bytes long are)
    ∙ ap (λ (n : ℕ). binary n (number_of (bits_of bytes))) (let e : 64 ≡ length (bits_of bytes) = omega (arith, length-bits_of bytes) in e)
    ∙ binary-number 0 (bits_of bytes)

pub bytes_of_word : (word : ℕ) → word < 2 ^ 64 → to_be_bytes w64 word ≡ bytes_of 8 (binary 64 word)
bytes_of_word word small =
    let bytes = to_be_bytes w64 word in
    let are : IsBytes bytes = All-from_get_or (λ n. n < 256) bytes 0 (λ i l. below word i) in
    sym (ap (bytes_of 8) (word_bits bytes word refl are (sym (from_be_bytes-to_be_bytes_8 word small))) ∙ bytes_of-bits_of bytes are)
  where
    below : (n i : ℕ) → get_or (to_be_bytes w64 n) i 0 < 256
    below n zero = omega arith
    below n (suc zero) = omega arith
    below n (suc (suc zero)) = omega arith
    below n (suc (suc (suc zero))) = omega arith
    below n (suc (suc (suc (suc zero)))) = omega arith
    below n (suc (suc (suc (suc (suc zero))))) = omega arith
    below n (suc (suc (suc (suc (suc (suc zero)))))) = omega arith
    below n (suc (suc (suc (suc (suc (suc (suc zero))))))) = omega arith
    below n (suc (suc (suc (suc (suc (suc (suc (suc i)))))))) = omega arith

-- ---- halves of a key

pub come_round : (half places : ℕ) → half < 2 ^ 28 → places ≤ 28 → half / 2 ^ (28 - places) < 2 ^ places
come_round half places small l = shr_lt places (28 - places) (subst (λ (k : ℕ). half < 2 ^ k) (let e : 28 ≡ places + (28 - places) = omega arith in e) small)

-- 28 bits shifted left, the first ones coming round to the end
pub shift_is : (half places : ℕ) → half < 2 ^ 28 → places ≤ 28 → binary 28 ((half * 2 ^ places + half / 2 ^ (28 - places)) % 2 ^ 28) ≡ shifted_left places (binary 28 half)
shift_is half places small l =
    let whole : places + (28 - places) ≡ 28 = omega arith in
    let turned : 28 - places + places ≡ 28 = omega arith in
    let round = half / 2 ^ (28 - places) in
    let sum = half * 2 ^ places + round in
    sym (low_bits 28 28 (sum / 2 ^ 28) (sum % 2 ^ 28) (omega arith))
    ∙ ap (binary 28) (let e : sum / 2 ^ 28 * 2 ^ 28 + sum % 2 ^ 28 ≡ sum = omega arith in e)
    ∙ ap (λ (w : ℕ). binary w sum) (sym turned)
    ∙ binary_cat (28 - places) places half round (come_round half places small l)
    ∙ ap (λ (bits : List Bool). bits ++ binary places round) (sym (binary_low places (28 - places) half) ∙ ap (λ (w : ℕ). drop places (binary w half)) whole)
    ∙ ap (λ (bits : List Bool). drop places (binary 28 half) ++ bits) (binary_high places (28 - places) half ∙ ap (λ (w : ℕ). take places (binary w half)) whole)

-- the same as the code writes it
pub shifted_word : (half places : ℕ) → half < 2 ^ 28 → places ≤ 28 → binary 28 (bit_and (bit_or (half * 2 ^ places % 2 ^ 64) (half / 2 ^ (28 - places))) (2 ^ 28 - 1)) ≡ shifted_left places (binary 28 half)
shifted_word half places small l =
    let round = half / 2 ^ (28 - places) in
    let sum : bit_or (half * 2 ^ places % 2 ^ 64) round ≡ half * 2 ^ places + round =
    ap (λ (n : ℕ). bit_or n round) (shl_whole half 28 places 64 small (omega arith)) ∙ or_shifted half places round (come_round half places small l) in
    ap (binary 28) (and_mask (bit_or (half * 2 ^ places % 2 ^ 64) round) 28 ∙ ap (λ (n : ℕ). n % 2 ^ 28) sum) ∙ shift_is half places small l

-- two halves of 28 bits in one word
pub joined_word : (c d : ℕ) → c < 2 ^ 28 → d < 2 ^ 28 → binary 56 (bit_or (c * 2 ^ 28 % 2 ^ 64) d) ≡ binary 28 c ++ binary 28 d
joined_word c d lc ld =
    ap (λ (n : ℕ). binary 56 (bit_or n d)) (shl_whole c 28 28 64 lc (omega arith))
    ∙ ap (binary 56) (or_shifted c 28 d ld) ∙ binary_cat 28 28 c d ld

low_half : (n : ℕ) → binary 28 (bit_and n (2 ^ 28 - 1)) ≡ binary 28 n
low_half n = ap (binary 28) (and_mask n 28) ∙ sym (low_bits 28 28 (n / 2 ^ 28) (n % 2 ^ 28) (omega arith)) ∙ ap (binary 28) (omega arith)

-- the two halves of a word of 56 bits
pub front_half : (n : ℕ) → binary 28 (bit_and (n / 2 ^ 28) (2 ^ 28 - 1)) ≡ take 28 (binary 56 n)
front_half n = low_half (n / 2 ^ 28) ∙ binary_high 28 28 n

pub back_half : (n : ℕ) → binary 28 (bit_and n (2 ^ 28 - 1)) ≡ drop 28 (binary 56 n)
back_half n = low_half n ∙ sym (binary_low 28 28 n)

-- the round keys in reverse order
pub spelled_in_reverse : (f : ℕ → List Bool) (words : List ℕ) → map f (reverse words) ≡ reverse (map f words)
spelled_in_reverse f [] = refl
spelled_in_reverse f (word ∷ words) =
    ap (map f) (reverse-append (word ∷ []) words) ∙ map-append f (reverse words) (word ∷ [])
    ∙ ap (λ (rest : List (List Bool)). rest ++ f word ∷ []) (spelled_in_reverse f words)
    ∙ sym (reverse-append (f word ∷ []) (map f words))
