-- Which texts are the digits of a key.
use Rattle.std.proofs.Common.{◌≡◌, ℕ, ◌*◌, List, [], ◌∷◌, Bool, true, false, cond, ◌&&◌, ◌||◌, eqb, leb, length, Result, Ok, Err, Some, None, refl, sym, ap, subst, ◌∙◌, inl, inr}
use Rattle.std.specs.List.{AllPass, list_all}
use Rattle.std.specs.Prelude.{is_some, IsOk, MatchResult}
use Rattle.std.proofs.lemmas.Bool.{cases_Bool, and_parts, and_from, eqb-true, eq-eqb}
use Rattle.std.proofs.lemmas.List.Sums.{AllPass-from_list_all, list_all-from_AllPass}
use Rattle.hex.specs.Hex.{decode_sized, is_hex_digit as is_digit}
use Rattle.hex.specs.declared.error.FromHexError.{FromHexError}
use Rattle.hex.proofs.HexLemmas.{IsOk-decode_sized, IsOk-written}
use Rattle.attr_tuples.specs.Forms.{is_hex_digit, is_hex_key}

some_of_three : (p q r : Bool) (x y z : ℕ) → (r || (p || q)) ≡ is_some (cond p (Some x) (cond q (Some y) (cond r (Some z) None)))
some_of_three true true true x y z = refl
some_of_three true true false x y z = refl
some_of_three true false true x y z = refl
some_of_three true false false x y z = refl
some_of_three false true true x y z = refl
some_of_three false true false x y z = refl
some_of_three false false true x y z = refl
some_of_three false false false x y z = refl

pub same_digit : (b : ℕ) → is_hex_digit b ≡ is_digit b
same_digit b = some_of_three (leb 65 b && leb b 70) (leb 97 b && leb b 102) (leb 48 b && leb b 57) _ _ _

all_digits : (text : List ℕ) → list_all is_hex_digit text ≡ list_all is_digit text
all_digits [] = refl
all_digits (b ∷ text) = ap (λ (v : Bool). v && list_all is_hex_digit text) (same_digit b) ∙ ap (λ (v : Bool). is_digit b && v) (all_digits text)

-- what a decoding into seven bytes answers tells whether the text is a key
pub found_key : (text out : List ℕ) (answer : Result (Unit {0}) FromHexError) → MatchResult (decode_sized text 7) (λ bytes. (answer ≡ Ok tt) × (out ≡ bytes)) (λ e. answer ≡ Err e) → IsOk answer → is_hex_key text ≡ true
found_key text out answer match ok =
    let parts = (IsOk-decode_sized text 7).0 ((IsOk-written (decode_sized text 7) answer out match).0 ok) in
    and_from _ _ (eq-eqb (length text) 14 parts.0) (all_digits text ∙ list_all-from_AllPass is_digit text parts.1)

pub refused_key : (text out : List ℕ) (answer : Result (Unit {0}) FromHexError) (e : FromHexError) → MatchResult (decode_sized text 7) (λ bytes. (answer ≡ Ok tt) × (out ≡ bytes)) (λ e. answer ≡ Err e) → answer ≡ Err e → is_hex_key text ≡ false
refused_key text out answer e match err = elim (cases_Bool (is_hex_key text)) [
  | inl t ↦ absurd (
      let parts = and_parts (eqb (length text) 14) (list_all is_hex_digit text) t in
      let good : (length text ≡ 2 * 7) × AllPass is_digit text = (eqb-true (length text) 14 parts.0, AllPass-from_list_all is_digit text (sym (all_digits text) ∙ parts.1)) in
      let ok : IsOk answer = (IsOk-written (decode_sized text 7) answer out match).1 ((IsOk-decode_sized text 7).1 good) in
      let refused : Result (Unit {0}) FromHexError = Err e in
      let bad : IsOk refused = subst (λ (r : Result (Unit {0}) FromHexError). IsOk r) err ok in cc bad)
  | inr f ↦ f
]
