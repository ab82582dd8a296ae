-- The combined tables: what their entries spell, and the steps of a round by eight look-ups.
use Rattle.std.proofs.Common.{◌≡◌, ℕ, zero, suc, ◌+◌, ◌-◌, ◌*◌, ◌/◌, ◌%◌, ◌^◌, ◌<◌, ◌≤◌, ◌==◌, Bool, true, false, List, [], ◌∷◌, ◌++◌, length, take, drop, get_or, refl, sym, ap, ◌∙◌, arith, bit_or, bit_xor, eqb-true}
use Rattle.std.proofs.lemmas.Nat.{or_shifted}
use Rattle.std.proofs.lemmas.Bool.{and_parts}
use Rattle.std.proofs.lemmas.List.{length-replicate, length-append, drop-drop, drop_at, take_at, length-take-le}
use Rattle.des_block.specs.Bits.{binary, bit_numbered, number_of, permuted, xored}
use Rattle.des_block.specs.Tables.{E, IP, IP_inverse, P, selections}
use Rattle.des_block.specs.Rounds.{selected, all_selected, after_rounds, cipher_function, encrypt_bits, swapped_halves}
use Rattle.des_block.specs.Rows.{zeros, placed, combined_bits, is_combined, are_combined}
use Rattle.des_block.proofs.BitLemmas.{length-permuted}
use Rattle.des_block.proofs.ByteLaws.{binary-number, length-binary}
use Rattle.des_block.proofs.RoundLemmas.{length-selected}
use Rattle.des_block.proofs.WordLaws.{begun, look_up_begin, look_up_end, low_bits, binary_xor, binary_high, binary_low, binary_mid, binary_cat, one_digit_more, permuted_xored, xored_take, xored_drop}

combined_entry : (number : ℕ) (table : List ℕ) (n : ℕ) (entries : List ℕ) (j : ℕ) → is_combined number table n entries ≡ true → j < length entries → get_or entries j 0 ≡ number_of (combined_bits number table (binary 6 (n + j)))
combined_entry number table n [] j e l = absurd (omega arith)
combined_entry number table n (entry ∷ entries) zero e l =
    let here = (and_parts (entry == number_of (combined_bits number table (binary 6 n))) (is_combined number table (n + 1) entries) e).0 in
    eqb-true _ _ here ∙ ap (λ (m : ℕ). number_of (combined_bits number table (binary 6 m))) (omega arith)
combined_entry number table n (entry ∷ entries) (suc j) e l =
    let more = (and_parts (entry == number_of (combined_bits number table (binary 6 n))) (is_combined number table (n + 1) entries) e).1 in
    combined_entry number table (n + 1) entries j more (omega arith)
    ∙ ap (λ (m : ℕ). number_of (combined_bits number table (binary 6 m))) (omega arith)

combined_length : (number : ℕ) (table : List ℕ) (n : ℕ) (entries : List ℕ) → is_combined number table n entries ≡ true → n + length entries ≡ 64
combined_length number table n [] e = omega (arith, eqb-true n 64 e)
combined_length number table n (entry ∷ entries) e =
    let more = (and_parts (entry == number_of (combined_bits number table (binary 6 n))) (is_combined number table (n + 1) entries) e).1 in
    omega (arith, combined_length number table (n + 1) entries more)

-- what an entry of the combined tables spells
pub combined_is : (number : ℕ) (tables rows : List (List ℕ)) (i j : ℕ) → are_combined number tables rows ≡ true → i < length rows → j < 64 → get_or (get_or rows i []) j 0 ≡ number_of (combined_bits (number + i) (get_or tables i []) (binary 6 j))
combined_is number [] [] i j e l m = absurd (omega arith)
combined_is number [] (row ∷ rows) i j e l m = absurd cc
combined_is number (table ∷ tables) [] i j e l m = absurd cc
combined_is number (table ∷ tables) (row ∷ rows) zero j e l m =
    let here = (and_parts (is_combined number table 0 row) (are_combined (number + 1) tables rows) e).0 in
    combined_entry number table 0 row j here (omega (arith, combined_length number table 0 row here))
    ∙ same (omega arith) (omega arith)
  where
    same : {a b c d : ℕ} → a ≡ b → c ≡ d → number_of (combined_bits a table (binary 6 c)) ≡ number_of (combined_bits b table (binary 6 d))
    same e f = rw (e, f) refl
combined_is number (table ∷ tables) (row ∷ rows) (suc i) j e l m =
    let more = (and_parts (is_combined number table 0 row) (are_combined (number + 1) tables rows) e).1 in
    combined_is (number + 1) tables rows i j more (omega arith) m
    ∙ ap (λ (k : ℕ). number_of (combined_bits k (get_or tables i []) (binary 6 j))) (omega arith)

-- ---- what E chooses

chosen : (right i : ℕ) → i < 8 → take 6 (drop (6 * i) (permuted E (binary 32 right))) ≡ take 6 (drop (4 * i) ((bit_numbered (binary 32 right) 32 ∷ binary 32 right) ++ bit_numbered (binary 32 right) 1 ∷ []))
unfolding permuted E
chosen right zero l = refl
chosen right (suc zero) l = refl
chosen right (suc (suc zero)) l = refl
chosen right (suc (suc (suc zero))) l = refl
chosen right (suc (suc (suc (suc zero)))) l = refl
chosen right (suc (suc (suc (suc (suc zero))))) l = refl
chosen right (suc (suc (suc (suc (suc (suc zero)))))) l = refl
chosen right (suc (suc (suc (suc (suc (suc (suc zero))))))) l = refl
chosen right (suc (suc (suc (suc (suc (suc (suc (suc i)))))))) l = absurd (omega arith)

-- ---- what the selection functions make, four bits each

drop_four : (four rest : List Bool) (n : ℕ) → length four ≡ 4 → drop (4 + n) (four ++ rest) ≡ drop n rest
drop_four four rest n long =
    ap (λ (k : ℕ). drop k (four ++ rest)) (let e : 4 + n ≡ length four + n = omega (arith, long) in e)
    ∙ sym (drop-drop n (length four) (four ++ rest))
    ∙ ap (drop n) (drop_at four rest (length four) refl)

take_four : (four rest : List Bool) → length four ≡ 4 → take 4 (four ++ rest) ≡ four
take_four four rest long = take_at four rest 4 long

pub selected_at : (tables : List (List ℕ)) (bits : List Bool) (i : ℕ) → i < length tables → take 4 (drop (4 * i) (all_selected tables bits)) ≡ selected (get_or tables i []) (take 6 (drop (6 * i) bits))
unfolding all_selected
selected_at [] bits i l = absurd (omega arith)
selected_at (table ∷ tables) bits zero l = take_four (selected table (take 6 bits)) (all_selected tables (drop 6 bits)) (length-selected table (take 6 bits))
selected_at (table ∷ tables) bits (suc i) l =
    ap (λ (k : ℕ). take 4 (drop k (selected table (take 6 bits) ++ all_selected tables (drop 6 bits)))) (let e : 4 * suc i ≡ 4 + 4 * i = omega arith in e)
    ∙ ap (take 4) (drop_four (selected table (take 6 bits)) (all_selected tables (drop 6 bits)) (4 * i) (length-selected table (take 6 bits)))
    ∙ selected_at tables (drop 6 bits) i (omega arith)
    ∙ ap (λ (six : List Bool). selected (get_or tables i []) (take 6 six)) (drop-drop (6 * i) 6 bits ∙ ap (λ (k : ℕ). drop k bits) (omega arith))

length-all_selected : (tables : List (List ℕ)) (bits : List Bool) → length (all_selected tables bits) ≡ 4 * length tables
unfolding all_selected
length-all_selected [] bits = refl
length-all_selected (table ∷ tables) bits =
    length-append (selected table (take 6 bits)) (all_selected tables (drop 6 bits))
    ∙ omega (arith, length-selected table (take 6 bits), length-all_selected tables (drop 6 bits))

-- ---- a round

-- the bits of which each six from every fourth on are those that E chooses
abbrev pub wide_bits : ℕ → List Bool
wide_bits right = (bit_numbered (binary 32 right) 32 ∷ binary 32 right) ++ bit_numbered (binary 32 right) 1 ∷ []

-- what goes into the selection functions
abbrev pub mixed : ℕ → ℕ → List Bool
mixed right key = xored (permuted E (binary 32 right)) (binary 48 key)

low_six : (n : ℕ) → binary 6 (n % 64) ≡ binary 6 n
low_six n = sym (low_bits 6 6 (n / 64) (n % 64) (omega arith)) ∙ ap (binary 6) (omega arith)

-- the six bits of a look-up
pub six_is : (right key wide i : ℕ) → i < 8 → binary 34 wide ≡ wide_bits right → binary 6 (bit_xor (wide / 2 ^ (28 - 4 * i)) (key / 2 ^ (42 - 6 * i)) % 64) ≡ take 6 (drop (6 * i) (mixed right key))
unfolding E
six_is right key wide i l is =
    let one = wide / 2 ^ (28 - 4 * i) in
    let two = key / 2 ^ (42 - 6 * i) in
    let split_wide : 4 * i + (6 + (28 - 4 * i)) ≡ 34 = omega arith in
    let split_key : 6 * i + (6 + (42 - 6 * i)) ≡ 48 = omega arith in
    let first : binary 6 one ≡ take 6 (drop (6 * i) (permuted E (binary 32 right))) =
    sym (binary_mid (4 * i) 6 (28 - 4 * i) wide) ∙ ap (λ (w : ℕ). take 6 (drop (4 * i) (binary w wide))) split_wide
    ∙ ap (λ (bits : List Bool). take 6 (drop (4 * i) bits)) is ∙ sym (chosen right i l) in
    let second : binary 6 two ≡ take 6 (drop (6 * i) (binary 48 key)) =
    sym (binary_mid (6 * i) 6 (42 - 6 * i) key) ∙ ap (λ (w : ℕ). take 6 (drop (6 * i) (binary w key))) split_key in
    let same : length (permuted E (binary 32 right)) ≡ length (binary 48 key) = length-permuted E (binary 32 right) ∙ sym (length-binary 48 key) in
    low_six (bit_xor one two) ∙ binary_xor 6 one two
    ∙ ap (λ (bits : List Bool). xored bits (binary 6 two)) first
    ∙ ap (λ (bits : List Bool). xored (take 6 (drop (6 * i) (permuted E (binary 32 right)))) bits) second
    ∙ sym (xored_take 6 (drop (6 * i) (permuted E (binary 32 right))) (drop (6 * i) (binary 48 key)))
    ∙ ap (take 6) (sym (xored_drop (6 * i) (permuted E (binary 32 right)) (binary 48 key) same))

-- one more look-up
pub round_look_up : (right key sum six entry i : ℕ) → i < 8 → binary 6 six ≡ take 6 (drop (6 * i) (mixed right key)) → entry ≡ number_of (combined_bits i (get_or selections i []) (binary 6 six))
    → binary 32 sum ≡ permuted P (begun 8 i (all_selected selections (mixed right key)))
    → binary 32 (bit_xor sum entry) ≡ permuted P (begun 8 (i + 1) (all_selected selections (mixed right key)))
unfolding P selections
round_look_up right key sum six entry i l is made h =
    let table = get_or selections i [] in
    let all = all_selected selections (mixed right key) in
    let here = placed (4 * i) (selected table (binary 6 six)) (28 - 4 * i) in
    let long : length all ≡ 32 = length-all_selected selections (mixed right key) in
    let four : selected table (binary 6 six) ≡ take 4 (drop (4 * i) all) = ap (selected table) is ∙ sym (selected_at selections (mixed right key) i l) in
    let left : 28 - 4 * i ≡ 4 * (8 - 1 - i) = omega arith in
    let bits : binary 32 entry ≡ permuted P here =
    ap (binary 32) made ∙ ap (λ (n : ℕ). binary n (number_of (permuted P here))) (sym (length-permuted P here)) ∙ binary-number 0 (permuted P here) in
    let done_long : length (begun 8 i all) ≡ 32 =
    length-append (take (4 * i) all) (zeros (4 * (8 - i))) ∙ omega (arith, length-take-le (4 * i) all (omega (arith, long)), length-replicate (4 * (8 - i)) false) in
    let rest_long : length (selected table (binary 6 six) ++ zeros (28 - 4 * i)) ≡ 4 + (28 - 4 * i) =
    length-append (selected table (binary 6 six)) (zeros (28 - 4 * i)) ∙ omega (arith, length-selected table (binary 6 six), length-replicate (28 - 4 * i) false) in
    let here_long : length here ≡ 32 = length-append (zeros (4 * i)) (selected table (binary 6 six) ++ zeros (28 - 4 * i)) ∙ omega (arith, rest_long, length-replicate (4 * i) false) in
    binary_xor 32 sum entry
    ∙ ap (λ (bs : List Bool). xored bs (binary 32 entry)) h
    ∙ ap (λ (bs : List Bool). xored (permuted P (begun 8 i all)) bs) bits
    ∙ sym (permuted_xored P (begun 8 i all) here (done_long ∙ sym here_long))
    ∙ ap (λ (k : ℕ). permuted P (xored (begun 8 i all) (placed (4 * i) (selected table (binary 6 six)) k))) left
    ∙ ap (permuted P) (one_digit_more 8 i all (selected table (binary 6 six)) l long four)

pub round_begin : (right key : ℕ) → binary 32 0 ≡ permuted P (begun 8 0 (all_selected selections (mixed right key)))
unfolding P
round_begin right key = look_up_begin P 8 (all_selected selections (mixed right key))

pub round_end : (right key i : ℕ) → 8 ≤ i → permuted P (begun 8 i (all_selected selections (mixed right key))) ≡ cipher_function (binary 32 right) (binary 48 key)
unfolding cipher_function selections
round_end right key i l = ap (permuted P) (look_up_end 8 i (all_selected selections (mixed right key)) (length-all_selected selections (mixed right key)) l)

-- ---- what the words of a round spell

wide_sum : (n : ℕ) → n < 2 ^ 32 → bit_or (bit_or (n % 2 * 2 ^ 33) (n * 2)) (n / 2 ^ 31) ≡ n % 2 * 2 ^ 33 + (n * 2 + n / 2 ^ 31)
wide_sum n l =
    ap (λ (m : ℕ). bit_or m (n / 2 ^ 31)) (or_shifted (n % 2) 33 (n * 2) (omega arith) ∙ (let e : n % 2 * 2 ^ 33 + n * 2 ≡ (n % 2 * 2 ^ 32 + n) * 2 ^ 1 = omega arith in e))
    ∙ or_shifted (n % 2 * 2 ^ 32 + n) 1 (n / 2 ^ 31) (omega arith)
    ∙ omega arith

last_bit : (n : ℕ) → binary 1 (n % 2) ≡ bit_numbered (binary 32 n) 32 ∷ []
last_bit n = ap (λ (m : ℕ). (m == 1) ∷ []) (omega arith)

first_bit : (n : ℕ) → binary 1 (n / 2 ^ 31) ≡ bit_numbered (binary 32 n) 1 ∷ []
first_bit n = ap (λ (m : ℕ). (m == 1) ∷ []) (omega arith)

pub wide_is : (n : ℕ) → n < 2 ^ 32 → binary 34 (bit_or (bit_or (n % 2 * 2 ^ 33) (n * 2)) (n / 2 ^ 31)) ≡ wide_bits n
wide_is n l =
    ap (binary 34) (wide_sum n l)
    ∙ binary_cat 1 33 (n % 2) (n * 2 + n / 2 ^ 31) (omega arith)
    ∙ ap (λ (bits : List Bool). binary 1 (n % 2) ++ bits) (binary_cat 32 1 n (n / 2 ^ 31) (omega arith))
    ∙ ap (λ (bits : List Bool). bits ++ (binary 32 n ++ binary 1 (n / 2 ^ 31))) (last_bit n)
    ∙ ap (λ (bits : List Bool). (bit_numbered (binary 32 n) 32 ∷ binary 32 n) ++ bits) (first_bit n)

-- the entry for a number and six bits
pub combined_at : (rows : List (List ℕ)) (i j number six : ℕ) → are_combined 0 selections rows ≡ true → i ≡ number → j ≡ six → length rows ≡ 8 → number < 8 → six < 64 → get_or (get_or rows i []) j 0 ≡ number_of (combined_bits number (get_or selections number []) (binary 6 six))
combined_at rows i j number six e is too long l m =
    ap (λ (k : ℕ). get_or (get_or rows k []) j 0) is ∙ ap (λ (k : ℕ). get_or (get_or rows number []) k 0) too
    ∙ combined_is 0 selections rows number six e (omega arith) m
    ∙ ap (λ (k : ℕ). number_of (combined_bits k (get_or selections number []) (binary 6 six))) (omega arith)

-- ---- a block

pub block_is : (keys : List (List Bool)) (block mid left right last out : ℕ) → binary 64 mid ≡ permuted IP (binary 64 block)
    → (binary 32 left, binary 32 right) ≡ after_rounds keys (binary 32 (mid / 2 ^ 32)) (binary 32 (mid % 2 ^ 32)) → left < 2 ^ 32 → last ≡ right * 2 ^ 32 + left
    → binary 64 out ≡ permuted IP_inverse (binary 64 last) → binary 64 out ≡ encrypt_bits keys (binary 64 block)
unfolding encrypt_bits
block_is keys block mid left right last out starts runs small is ends =
    let input = permuted IP (binary 64 block) in
    let front : binary 32 (mid / 2 ^ 32) ≡ take 32 input = binary_high 32 32 mid ∙ ap (take 32) starts in
    let back : binary 32 (mid % 2 ^ 32) ≡ drop 32 input =
    sym (low_bits 32 32 (mid / 2 ^ 32) (mid % 2 ^ 32) (omega arith)) ∙ ap (binary 32) (omega arith) ∙ sym (binary_low 32 32 mid) ∙ ap (drop 32) starts in
    ends
    ∙ ap (λ (n : ℕ). permuted IP_inverse (binary 64 n)) is
    ∙ ap (permuted IP_inverse) (binary_cat 32 32 right left small)
    ∙ ap (λ (halves : List Bool × List Bool). permuted IP_inverse (swapped_halves halves)) runs
    ∙ ap (λ (bits : List Bool). permuted IP_inverse (swapped_halves (after_rounds keys bits (binary 32 (mid % 2 ^ 32))))) front
    ∙ ap (λ (bits : List Bool). permuted IP_inverse (swapped_halves (after_rounds keys (take 32 input) bits))) back
