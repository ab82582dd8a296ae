-- Random bytes are what their sixteen digits spell, and no other digits in lower case spell them.
use Rattle.std.proofs.Common.{◌≡◌, ℕ, zero, suc, ◌+◌, ◌*◌, ◌/◌, ◌%◌, List, [], ◌∷◌, Bool, true, ◌&&◌, eqb, ltb, length, Result, Ok, Some, refl, sym, ap, ◌∙◌, arith}
use Rattle.std.specs.List.{list_all}
use Rattle.std.specs.Result.{result_unwrap_or}
use Rattle.std.proofs.lemmas.Bool.{and_parts, and_from, eqb-true, eq-eqb, ltb-true, lt-ltb}
use Rattle.hex.specs.Hex.{IsBytes, encode_with, encode_lower, lower_digits, decode_pairs, decode_of, digit_or_error, pair_value, value_at}
use Rattle.hex.specs.declared.error.FromHexError.{FromHexError}
use Rattle.hex.proofs.Pairs.{cons_byte, decode_pairs-ok_pair}
use Rattle.hex.proofs.HexLemmas.{decode_of-encode_lower, decode_of-even, length-encode_with}
use Rattle.world_scripts.specs.Lines.{is_random}
use Rattle.world_scripts.specs.Reading.{is_lower_digit, random_of}
use Rattle.world_scripts.proofs.CutLemmas.{lacks, lacks_by}
use Rattle.world_scripts.proofs.DigitLemmas.{value, has_value, digit_is_lower}
use Rattle.world_scripts.proofs.ReadLemmas.{if_parts}

abbrev pub are_bytes : List ℕ → Bool
are_bytes bytes = list_all (λ b. ltb b 256) bytes

bytes_at : (bytes : List ℕ) → are_bytes bytes ≡ true → IsBytes bytes
bytes_at [] h i = omega arith
bytes_at (b ∷ bytes) h zero = ltb-true b 256 (and_parts (ltb b 256) (are_bytes bytes) h).0
bytes_at (b ∷ bytes) h (suc i) = bytes_at bytes (and_parts (ltb b 256) (are_bytes bytes) h).1 i

pub encoded_lower : (bytes : List ℕ) → are_bytes bytes ≡ true → list_all is_lower_digit (encode_lower bytes) ≡ true
unfolding encode_with
encoded_lower [] h = refl
encoded_lower (b ∷ bytes) h =
    let both = and_parts (ltb b 256) (are_bytes bytes) h in
    let small = ltb-true b 256 both.0 in
    let high = digit_is_lower (b / 16) (omega (arith, small)) in
    let low = digit_is_lower (b % 16) (omega (arith, small)) in
    rw (high, low) (encoded_lower bytes both.1)

pub random_again : (bytes : List ℕ) → is_random bytes ≡ true → random_of (encode_lower bytes) ≡ Some bytes
random_again bytes h =
    let both = and_parts (eqb (length bytes) 8) (are_bytes bytes) h in
    let eight = eqb-true (length bytes) 8 both.0 in
    let twice = length-encode_with lower_digits bytes in
    let sized : eqb (length (encode_lower bytes)) 16 ≡ true = eq-eqb (length (encode_lower bytes)) 16 (omega (arith, twice, eight)) in
    let lower = encoded_lower bytes both.1 in
    let spelled = decode_of-encode_lower bytes (bytes_at bytes both.1) in
    rw (sized, lower, spelled) refl

-- what pairs of digits spell
record Spells (at : ℕ) (text : List ℕ) : Type 0 where
  bytes : List ℕ
  read : decode_pairs at text ≡ Ok bytes
  back : encode_lower bytes ≡ text
  small : are_bytes bytes ≡ true
  twice : length text ≡ 2 * length bytes

pair_spelled : (at h l : ℕ) (text : List ℕ) → is_lower_digit h ≡ true → is_lower_digit l ≡ true → Spells (at + 2) text → Spells at (h ∷ l ∷ text)
unfolding encode_with
pair_spelled at h l text is_h is_l rest =
    let high = has_value h is_h in
    let low = has_value l is_l in
    let v : ℕ = value h * 16 + value l in
    let read_h : value_at h at ≡ Ok (value h) = ap (digit_or_error h at) high.some in
    let read_l : value_at l (at + 1) ≡ Ok (value l) = ap (digit_or_error l (at + 1)) low.some in
    let pair : pair_value h l at ≡ Ok (value h * 16 + value l) = rw (read_h, read_l) refl in
    let small_h = high.small in
    let small_l = low.small in
    let upper : (value h * 16 + value l) / 16 ≡ value h = omega (arith, small_h, small_l) in
    let under : (value h * 16 + value l) % 16 ≡ value l = omega (arith, small_h, small_l) in
    let fits : ltb (value h * 16 + value l) 256 ≡ true = lt-ltb (value h * 16 + value l) 256 (omega (arith, small_h, small_l)) in
    let twice = rest.twice in
    record {
      bytes = (value h * 16 + value l) ∷ rest.bytes;
      read = decode_pairs-ok_pair at h l (value h * 16 + value l) text pair ∙ ap (cons_byte (value h * 16 + value l)) rest.read;
      back = rw (upper, under, high.back, low.back, rest.back) refl;
      small = rw fits rest.small;
      twice = omega (arith, twice);
    }

spelled : (at : ℕ) (text : List ℕ) → list_all is_lower_digit text ≡ true → length text % 2 ≡ 0 → Spells at text
unfolding encode_with decode_pairs
spelled at [] h even = record { bytes = []; read = refl; back = refl; small = refl; twice = refl }
spelled at (d ∷ []) h even = absurd (let e : 1 ≡ 0 = even in omega (arith, e))
spelled at (a ∷ b ∷ text) h even =
    let first = and_parts (is_lower_digit a) (list_all is_lower_digit (b ∷ text)) h in
    let second = and_parts (is_lower_digit b) (list_all is_lower_digit text) first.1 in
    pair_spelled at a b text first.0 second.0 (spelled (at + 2) text second.1 (omega (arith, even)))

pub random_parts : (text random : List ℕ) → random_of text ≡ Some random → (text ≡ encode_lower random) × (is_random random ≡ true)
random_parts text random h =
    let found = if_parts (eqb (length text) 16 && list_all is_lower_digit text) (result_unwrap_or (decode_of text) []) random h in
    let both = and_parts (eqb (length text) 16) (list_all is_lower_digit text) found.0 in
    let sized = eqb-true (length text) 16 both.0 in
    let even : length text % 2 ≡ 0 = omega (arith, sized) in
    let spells = spelled 0 text both.1 even in
    let twice = spells.twice in
    let read : decode_of text ≡ Ok spells.bytes = decode_of-even text even ∙ spells.read in
    let same : spells.bytes ≡ random = ap (λ (r : Result (List ℕ) FromHexError). result_unwrap_or r []) (sym read) ∙ found.1 in
    let eight : eqb (length spells.bytes) 8 ≡ true = eq-eqb (length spells.bytes) 8 (omega (arith, twice, sized)) in
    let random_bytes : is_random spells.bytes ≡ true = and_from (eqb (length spells.bytes) 8) (are_bytes spells.bytes) eight spells.small in
    (sym spells.back ∙ ap encode_lower same, ap is_random (sym same) ∙ random_bytes)

pub random_lacks : (bytes : List ℕ) → is_random bytes ≡ true → lacks 32 (encode_lower bytes) ≡ true
random_lacks bytes h = lacks_by is_lower_digit 32 refl (encode_lower bytes) (encoded_lower bytes (and_parts (eqb (length bytes) 8) (are_bytes bytes) h).1)
