-- Names, as the records of Plan 9's authentication hold them (authsrv(6) of the Plan 9 manual): text in a field of
-- so many bytes, with a NUL behind it.
use Rattle.std.specs.Prelude.{◌≡◌, ℕ, ◌+◌, ◌-◌, ◌<◌, List, ◌∷◌, ◌++◌, length, replicate, true}
use Rattle.wire_base.specs.Texts.{is_text}

-- a name of a field of so many bytes: text that leaves room for a NUL
pub record IsName (size : ℕ) (name : List ℕ) : Type 0 where
  pub text : is_text name ≡ true
  pub short : length name < size

-- the field as it is written: the name, a NUL, and NULs to the end
abbrev pub name_field : ℕ → List ℕ → List ℕ
name_field size name = name ++ 0 ∷ replicate (size - (length name + 1)) 0
