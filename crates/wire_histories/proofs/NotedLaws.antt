-- What is noted of a setting is that of the setting.
use Rattle.std.proofs.Common.{◌≡◌, ℕ, zero, suc, List, [], ◌∷◌, length, Bool, true, false, Option, Some, None, refl, ap, sym, ◌∙◌}
use Rattle.std.proofs.Math.Dec.{leb-suc-suc, leb-suc-zero, leb-zero}
use Rattle.std.specs.Prelude.{is_some, nat_lt, option_map}
use Rattle.std.specs.List.{slice_get}
use Rattle.auth_tables.specs.Keys.{UserKey}
use Rattle.wire_histories.specs.Legal.{Setting}
use Rattle.wire_histories.specs.Noted.{IsNotedOf, Noted, kept_des, kept_secret, noted_des, noted_secret, noted_tables, secret_in}

pub noted_keys : (z : Setting) (n : Noted) → IsNotedOf z n → (conv : List ℕ) → noted_des n conv ≡ kept_des z conv
noted_keys z n h conv = ap (option_map (λ (key : UserKey). key.des)) (h.keys conv)

pub noted_secrets : (z : Setting) (n : Noted) → IsNotedOf z n → (conv : List ℕ) → noted_secret n conv ≡ kept_secret z conv
noted_secrets z n h conv = ap secret_in (h.keys conv)

there : {X : Type 0} (xs : List X) (number : ℕ) → is_some (slice_get xs number) ≡ nat_lt number (length xs)
there [] number = sym (leb-suc-zero number)
there (x ∷ xs) zero = sym (leb-suc-suc 0 (length xs) ∙ leb-zero (length xs))
there (x ∷ xs) (suc number) = there xs number ∙ sym (leb-suc-suc (suc number) (length xs))

pub noted_as_many : (z : Setting) (n : Noted) → IsNotedOf z n → (number : ℕ) → is_some (noted_tables n number) ≡ nat_lt number (length z.tables)
noted_as_many z n h number = there n.tables number ∙ ap (nat_lt number) h.as_many
