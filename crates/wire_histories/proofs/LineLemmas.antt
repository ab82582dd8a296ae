-- Digits of bytes, one behind the other.
use Rattle.hex.specs.Hex.{encode_with, encode_lower, lower_digits}
use Rattle.std.proofs.Common.{◌≡◌, ℕ, ◌+◌, ◌<◌, ◌/◌, ◌%◌, List, [], ◌∷◌, ◌++◌, get_or, slice_index, length, take, refl, sym, ap, ◌∙◌, append_assoc}
use Rattle.std.proofs.lemmas.List.{append-nil, take_more}

-- digits of bytes one behind the other
encode_both : (t xs ys : List ℕ) → encode_with t (xs ++ ys) ≡ encode_with t xs ++ encode_with t ys
unfolding encode_with
encode_both t [] ys = refl
encode_both t (x ∷ xs) ys = ap (λ (rest : List ℕ). slice_index t (x / 16) ∷ slice_index t (x % 16) ∷ rest) (encode_both t xs ys)

-- the digits of one byte more
pub encode_more : (bytes : List ℕ) (i d : ℕ) → i < length bytes → encode_lower (take (i + 1) bytes) ≡ encode_lower (take i bytes) ++ encode_lower (get_or bytes i d ∷ [])
encode_more bytes i d p = ap encode_lower (take_more bytes i d p) ∙ encode_both lower_digits (take i bytes) (get_or bytes i d ∷ [])

encode_none : encode_lower [] ≡ []
unfolding encode_with
encode_none = refl

-- before any byte
pub no_digits : (before : List ℕ) → before ≡ before ++ encode_lower []
no_digits before = sym (ap (λ (rest : List ℕ). before ++ rest) encode_none ∙ append-nil before)

-- the digits of a byte behind those before it
pub digits_more : (before out new digits bytes : List ℕ) (i d : ℕ) → i < length bytes → out ≡ before ++ encode_lower (take i bytes) → digits ≡ encode_lower (get_or bytes i d ∷ []) → new ≡ out ++ digits → new ≡ before ++ encode_lower (take (i + 1) bytes)
digits_more before out new digits bytes i d p e g h =
    h
    ∙ ap (λ (x : List ℕ). x ++ digits) e
    ∙ ap (λ (x : List ℕ). (before ++ encode_lower (take i bytes)) ++ x) g
    ∙ append_assoc before (encode_lower (take i bytes)) (encode_lower (get_or bytes i d ∷ []))
    ∙ sym (ap (λ (x : List ℕ). before ++ x) (encode_more bytes i d p))
