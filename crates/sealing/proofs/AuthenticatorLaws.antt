-- An authenticator is read exactly where its fields stand; and as it is written it is read.
use Rattle.std.proofs.Common.{◌≡◌, ℕ, ◌<◌, ◌^◌, List, [], ◌∷◌, ◌++◌, length, drop, refl, ap, subst, ◌∙◌, append-nil}
use Rattle.std.specs.Prelude.{◌↔◌}
use Rattle.std.specs.Int.{w32, from_le_bytes, to_le_bytes}
use Rattle.std.proofs.lemmas.Nat.{from_le_bytes-to_le_bytes_4}
use Rattle.sealing.specs.Authenticator.{authenticator_text, IsAuthenticator, authenticator_of}
use Rattle.sealing.specs.declared.authenticator.Authenticator.{Authenticator}
use Rattle.sealing.proofs.FieldLaws.{field_here, behind_field}

authenticator_again : (bytes : List ℕ) (a : Authenticator) → IsAuthenticator bytes a → authenticator_of bytes ≡ a
unfolding authenticator_of
authenticator_again bytes a is = rw (is.num, is.chal, is.id) refl

pub authenticator_layout : (bytes : List ℕ) (a : Authenticator) → (authenticator_of bytes ≡ a) ↔ IsAuthenticator bytes a
unfolding authenticator_of
authenticator_layout bytes a = (taken, authenticator_again bytes a)
  where
    taken : authenticator_of bytes ≡ a → IsAuthenticator bytes a
    taken e = let P : Authenticator → Type 0 = λ a. IsAuthenticator bytes a in
        subst P e (record { num = refl; chal = refl; id = refl })

regrouped : (num : ℕ) (a b : List ℕ) → num ∷ [] ++ a ++ b ≡ num ∷ (a ++ (b ++ []))
regrouped num a b = simp append-nil

-- an authenticator as it is written is read again
pub authenticator_written : (a : Authenticator) → length a.chal ≡ 8 → a.id < 2 ^ 32 → authenticator_of (authenticator_text a) ≡ a
unfolding authenticator_text
authenticator_written a chal small =
    let id_text = to_le_bytes w32 a.id in
    let bytes = a.num ∷ [] ++ a.chal ++ id_text in
    let at_1 : drop 1 bytes ≡ a.chal ++ (id_text ++ []) = ap (λ (xs : List ℕ). drop 1 xs) (regrouped a.num a.chal id_text) in
    let at_9 : drop 9 bytes ≡ id_text ++ [] = behind_field bytes a.chal (id_text ++ []) 1 8 chal at_1 in
    authenticator_again bytes a (record {
      num = refl;
      chal = field_here bytes a.chal (id_text ++ []) 1 8 chal at_1;
      id = ap (λ (xs : List ℕ). from_le_bytes w32 xs) (field_here bytes id_text [] 9 4 refl at_9) ∙ from_le_bytes-to_le_bytes_4 a.id small;
    })
