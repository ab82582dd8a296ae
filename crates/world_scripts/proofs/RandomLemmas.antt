-- Random bytes as digits in lower case.
use Rattle.std.proofs.Common.{◌≡◌, ℕ, ◌*◌, List, [], ◌∷◌, true, length, Result, Ok, Err, refl, subst}
use Rattle.std.specs.List.{AllPass, list_all}
use Rattle.std.specs.Prelude.{IsOk, MatchResult}
use Rattle.std.proofs.lemmas.Bool.{and_parts, and_from}
use Rattle.std.proofs.lemmas.List.Sums.{AllPass-from_list_all}
use Rattle.hex.specs.Hex.{decode_sized, is_hex_digit}
use Rattle.hex.specs.declared.error.FromHexError.{FromHexError}
use Rattle.hex.proofs.HexLemmas.{IsOk-decode_sized, IsOk-written}
use Rattle.world_scripts.specs.Reading.{is_lower_digit}
use Rattle.world_scripts.proofs.DigitLemmas.{lower_is_digit}

all_digits : (text : List ℕ) → list_all is_lower_digit text ≡ true → list_all is_hex_digit text ≡ true
all_digits [] h = refl
all_digits (b ∷ text) h =
    let both = and_parts (is_lower_digit b) (list_all is_lower_digit text) h in
    and_from (is_hex_digit b) (list_all is_hex_digit text) (lower_is_digit b both.0) (all_digits text both.1)

pub never_refused : (text out : List ℕ) (answer : Result (Unit {0}) FromHexError) (e : FromHexError) → list_all is_lower_digit text ≡ true → length text ≡ 16 → MatchResult (decode_sized text 8) (λ bytes. (answer ≡ Ok tt) × (out ≡ bytes)) (λ e. answer ≡ Err e) → answer ≡ Err e → ⊥
never_refused text out answer e lower sized match err =
    let good : (length text ≡ 2 * 8) × AllPass is_hex_digit text = (sized, AllPass-from_list_all is_hex_digit text (all_digits text lower)) in
    let ok : IsOk answer = (IsOk-written (decode_sized text 8) answer out match).1 ((IsOk-decode_sized text 8).1 good) in
    let refused : Result (Unit {0}) FromHexError = Err e in
    let bad : IsOk refused = subst (λ (r : Result (Unit {0}) FromHexError). IsOk r) err ok in cc bad
