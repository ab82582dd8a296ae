-- A key name is text: a user's name, and behind a blank a number in decimal.
use Rattle.std.proofs.Common.{◌≡◌, ℕ, zero, suc, ◌<◌, ◌≤◌, ◌^◌, List, [], ◌∷◌, ◌++◌, Bool, true, false, not, ◌||◌, eqb, length, get_or, refl, ap, ◌∙◌, arith, append_assoc, decimal}
use Rattle.std.proofs.lemmas.Bool.{and_parts, ne_eqb, not-true}
use Rattle.std.proofs.lemmas.Fmt.{IsAscii-decimal, decimal_is_IsNumeral}
use Rattle.std.proofs.lemmas.List.Folds.{list_any-append}
use Rattle.std.proofs.lemmas.Str.{IsUtf8-append, IsUtf8-from_ascii, IsUtf8-from_is_utf8, is_utf8-from_IsUtf8}
use Rattle.std.proofs.lemmas.Str.Ascii.{IsAscii-cons}
use Rattle.std.proofs.lemmas.Str.Parse.{digit_at}
use Rattle.std.specs.List.{list_any}
use Rattle.std.specs.Str.{is_utf8}
use Rattle.wire_base.specs.Texts.{is_text}
use Rattle.wire_base.proofs.TextLemmas.{is_text-without_nul}
use Rattle.clean_runs.specs.KeyNames.{with_number}

-- bytes of which none is 0
no_nul : (bytes : List ℕ) → ((i : ℕ) → i < length bytes → 48 ≤ get_or bytes i 0) → list_any (λ b. eqb b 0) bytes ≡ false
no_nul [] h = refl
no_nul (b ∷ bytes) h =
    let first : eqb b 0 ≡ false = ne_eqb b 0 (λ e. omega (arith, h 0 (omega arith), e)) in
    rw first (no_nul bytes (λ i inside. h (suc i) (omega (arith, inside))))

text_parts : (bytes : List ℕ) → is_text bytes ≡ true → (list_any (λ b. eqb b 0) bytes ≡ false) × (is_utf8 bytes ≡ true)
unfolding is_text
text_parts bytes h =
    let parts = and_parts (not (list_any (λ b. eqb b 0) bytes)) (is_utf8 bytes) h in
    (not-true (list_any (λ b. eqb b 0) bytes) parts.0, parts.1)

digits_behind : (n : ℕ) → n < 2 ^ 64 → list_any (λ b. eqb b 0) (32 ∷ decimal n) ≡ false
digits_behind n small =
    let digits = (decimal_is_IsNumeral n small).0.1 in
    no_nul (decimal n) (λ i inside. let range = digit_at (decimal n) i digits inside in omega (arith, range))

pub numbered_text : (user : List ℕ) (n : ℕ) → n < 2 ^ 64 → is_text user ≡ true → is_text (user ++ 32 ∷ decimal n) ≡ true
numbered_text user n small text =
    let parts = text_parts user text in
    let nul : list_any (λ b. eqb b 0) (user ++ 32 ∷ decimal n) ≡ false =
    list_any-append (λ b. eqb b 0) user (32 ∷ decimal n) ∙ (ap (λ (x : Bool). x || list_any (λ b. eqb b 0) (32 ∷ decimal n)) parts.0 ∙ digits_behind n small) in
    is_text-without_nul (user ++ 32 ∷ decimal n) nul
    ∙ is_utf8-from_IsUtf8 (user ++ 32 ∷ decimal n)
    (IsUtf8-append user (32 ∷ decimal n) (IsUtf8-from_is_utf8 user parts.1)
    (IsUtf8-from_ascii (32 ∷ decimal n) (IsAscii-cons 32 (decimal n) (omega arith) (IsAscii-decimal n small))))

-- a number that isn't 0 stands behind a blank
pub with_some_number : (user : List ℕ) (n : ℕ) → (n ≡ 0 → ⊥) → with_number user n ≡ user ++ 32 ∷ decimal n
with_some_number user zero h = absurd (h refl)
with_some_number user (suc n) h = refl

-- the text that is put together
pub put_together : (user copy first second text digits : List ℕ) → copy ≡ user → first ≡ copy ++ 32 ∷ [] → second ≡ first ++ digits → text ≡ second → text ≡ user ++ 32 ∷ digits
put_together user copy first second text digits e f g h =
    h ∙ (g ∙ (ap (λ (x : List ℕ). x ++ digits) (f ∙ ap (λ (x : List ℕ). x ++ 32 ∷ []) e) ∙ append_assoc user (32 ∷ []) digits))
