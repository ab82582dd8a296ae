-- A test that holds exactly of UTF-8 is std's.
use Rattle.std.proofs.Common.{◌≡◌, ℕ, List, Bool, true, false, sym, refl, inl, inr}
use Rattle.std.specs.Prelude.{◌↔◌, ◌==◌}
use Rattle.std.specs.List.{list_any}
use Rattle.wire_base.specs.Texts.{is_text}
use Rattle.std.specs.Str.{IsUtf8, is_utf8}
use Rattle.std.proofs.lemmas.Str.{IsUtf8-from_is_utf8, is_utf8-from_IsUtf8}
use Rattle.std.proofs.lemmas.Bool.{cases_Bool}

pub same_test : (b : Bool) (bytes : List ℕ) → ((b ≡ true) ↔ IsUtf8 bytes) → b ≡ is_utf8 bytes
same_test true bytes h = sym (is_utf8-from_IsUtf8 bytes (h.0 refl))
same_test false bytes h = elim (cases_Bool (is_utf8 bytes)) [ inl e ↦ absurd (let f : false ≡ true = h.1 (IsUtf8-from_is_utf8 bytes e) in (cc)) | inr e ↦ sym e ]

pub is_text-without_nul : (bytes : List ℕ) → list_any (λ b. b == 0) bytes ≡ false → is_text bytes ≡ is_utf8 bytes
unfolding is_text
is_text-without_nul bytes e = rw e refl
