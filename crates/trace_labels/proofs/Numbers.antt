-- A number is read again from the word that it is written as.
use Rattle.std.proofs.Common.{◌≡◌, ℕ, ◌<◌, ◌^◌, List, Bool, true, false, ◌&&◌, cond, ltb, Option, Some, None, refl, sym, ap, ◌∙◌, arith, subst}
use Rattle.std.specs.Fmt.{decimal}
use Rattle.std.specs.Str.{bytes_eq}
use Rattle.std.specs.Str.Parse.{digits_value}
use Rattle.std.proofs.lemmas.Fmt.{decimal_is_IsNumeral, IsAscii-decimal}
use Rattle.std.proofs.lemmas.Bool.{and_parts, ltb-true, lt-ltb}
use Rattle.std.proofs.lemmas.Str.{IsUtf8-from_ascii}
use Rattle.std.specs.Str.{IsUtf8}
use Rattle.trace_labels.specs.Reading.{number_of}
use Rattle.std.proofs.lemmas.Slice.Eq.{bytes_eq-Decides}

same_some : {A : Type 0} (a b : A) → Some a ≡ Some b → a ≡ b
same_some a b h = cc

equal_bytes : (a b : List ℕ) → a ≡ b → bytes_eq a b ≡ true
equal_bytes a b e = (bytes_eq-Decides a b).1 e

chosen : (word : List ℕ) (v n : ℕ) → v ≡ n → word ≡ decimal n → n < 2 ^ 32 → cond (ltb v (2 ^ 32) && bytes_eq word (decimal v)) (Some v) None ≡ Some n
chosen word v n e w h = rw (e, lt-ltb n (2 ^ 32) h, equal_bytes word (decimal n) w) refl

pub number_again : (n : ℕ) (word : List ℕ) → n < 2 ^ 32 → word ≡ decimal n → number_of word ≡ Some n
number_again n word h w = chosen word (digits_value 10 word) n (ap (digits_value 10) w ∙ (decimal_is_IsNumeral n (omega (arith, h))).1) w h

parts : (word : List ℕ) (v n : ℕ) (t : Bool) → (ltb v (2 ^ 32) && bytes_eq word (decimal v)) ≡ t → cond t (Some v) None ≡ Some n → (word ≡ decimal n) × (n < 2 ^ 32)
parts word v n true e h =
    let both = and_parts (ltb v (2 ^ 32)) (bytes_eq word (decimal v)) e in
    let same : v ≡ n = same_some v n h in
    ((bytes_eq-Decides word (decimal v)).0 both.1 ∙ ap decimal same, subst (λ k. k < 2 ^ 32) same (ltb-true v (2 ^ 32) both.0))
parts word v n false e h = absurd cc

pub number_parts : (word : List ℕ) (n : ℕ) → number_of word ≡ Some n → (word ≡ decimal n) × (n < 2 ^ 32)
number_parts word n h = parts word (digits_value 10 word) n (ltb (digits_value 10 word) (2 ^ 32) && bytes_eq word (decimal (digits_value 10 word))) refl h

-- a text from which nothing else is parsed than what is written there
none_by : (word : List ℕ) (read : Option ℕ) → number_of word ≡ read → ((n : ℕ) → n < 2 ^ 32 → word ≡ decimal n → ⊥) → None ≡ number_of word
none_by word None e never = sym e
none_by word (Some n) e never = let found = number_parts word n e in absurd (never n found.1 found.0)

pub unparsed : (word : List ℕ) (parsed : Option ℕ) → parsed ≡ None → ((n : ℕ) → n < 2 ^ 32 → word ≡ decimal n → parsed ≡ Some n) → None ≡ number_of word
unparsed word parsed e h = none_by word (number_of word) refl (λ n small written. let s : None ≡ Some n = sym e ∙ h n small written in absurd cc)

parsed_by : (word : List ℕ) (m : ℕ) (t : Bool) → bytes_eq word (decimal m) ≡ t → m < 2 ^ 32 → ((n : ℕ) → n < 2 ^ 32 → word ≡ decimal n → Some m ≡ Some n) → cond t (Some m) None ≡ number_of word
parsed_by word m true e small h = sym (number_again m word small ((bytes_eq-Decides word (decimal m)).0 e))
parsed_by word m false e small h = none_by word (number_of word) refl (λ n less written.
    let same : m ≡ n = same_some m n (h n less written) in
    let found : true ≡ false = sym (equal_bytes word (decimal m) (written ∙ ap decimal (sym same))) ∙ e in absurd cc)

pub parsed_is : (word : List ℕ) (parsed : Option ℕ) (m : ℕ) → parsed ≡ Some m → m < 2 ^ 32 → ((n : ℕ) → n < 2 ^ 32 → word ≡ decimal n → parsed ≡ Some n) → cond (bytes_eq word (decimal m)) (Some m) None ≡ number_of word
parsed_is word parsed m e small h = parsed_by word m (bytes_eq word (decimal m)) refl small (λ n less written. sym e ∙ h n less written)

-- what is written as a number is text
pub number_is_text : (n : ℕ) (word : List ℕ) → n < 2 ^ 32 → word ≡ decimal n → IsUtf8 word
number_is_text n word h e = subst IsUtf8 (sym e) (IsUtf8-from_ascii (decimal n) (IsAscii-decimal n (omega (arith, h))))
