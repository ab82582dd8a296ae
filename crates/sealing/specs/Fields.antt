-- The fields of a record of authsrv(6) of the Plan 9 manual, each at its offset and of its size, and the names in
-- them.
use Rattle.std.specs.Prelude.{◌≡◌, ℕ, ◌==◌, ◌⊎◌, false, true, List, [], ◌∷◌, ◌++◌, take, drop, Option, Some, None, option_map, Result, Ok, Err, if◌then◌else◌}
use Rattle.std.specs.List.{list_any, position}
use Rattle.std.specs.Str.{is_utf8}
use Rattle.wire_base.specs.Texts.{is_text}
use Rattle.sealing.specs.declared.fault.FieldFault.{FieldFault}
use Rattle.sealing.specs.declared.fault.FieldFault.TheVariants.{Short, NoNul, NotText}

-- the field at an offset, of so many bytes
abbrev pub field : ℕ → ℕ → List ℕ → List ℕ
field at size bytes = take size (drop at bytes)

-- a field holds a name: the name, a NUL, and any bytes behind it
pub record HoldsName (bytes name : List ℕ) : Type 0 where
  pub text : is_text name ≡ true
  pub behind : List ℕ
  pub parts : bytes ≡ name ++ 0 ∷ behind

-- what stands before the first NUL, where there is one
unfoldable pub before_nul : List ℕ → Option (List ℕ)
before_nul bytes = option_map (λ end. take end bytes) (position (λ b. b == 0) bytes)

-- what stands before the first NUL of the field at an offset is its name, where it is text
abbrev pub named : ℕ → Option (List ℕ) → Result (List ℕ) FieldFault
named at (Some name) = if is_text name then Ok name else Err (NotText at)
named at None = Err (NoNul at)

-- the name in the field at an offset, of so many bytes, or what is wrong with the field
unfoldable pub name_in : ℕ → ℕ → List ℕ → Result (List ℕ) FieldFault
name_in at size bytes = named at (before_nul (field at size bytes))

-- bytes begin with no text: their first NUL stands behind bytes that aren't UTF-8
pub record BeginsBadly (bytes : List ℕ) : Type 0 where
  pub front : List ℕ
  pub behind : List ℕ
  pub parts : bytes ≡ front ++ 0 ∷ behind
  pub clean : list_any (λ b. b == 0) front ≡ false
  pub bad : is_utf8 front ≡ false

-- what is wrong with the bytes of the field at an offset: they hold no NUL, or begin with no text
abbrev pub IsBad : ℕ → List ℕ → FieldFault → Type 0
IsBad at bytes (NoNul place) = (place ≡ at) × (list_any (λ b. b == 0) bytes ≡ false)
IsBad at bytes (NotText place) = (place ≡ at) × BeginsBadly bytes
IsBad at bytes (Short need) = ⊥

-- the fault is that of the first of these fields, given by offset and size, that holds no name
abbrev pub FirstBad : List (ℕ × ℕ) → List ℕ → FieldFault → Type 0
FirstBad [] bytes fault = ⊥
FirstBad (place ∷ others) bytes fault =
    IsBad place.0 (field place.0 place.1 bytes) fault
    ⊎ (((name : List ℕ) × HoldsName (field place.0 place.1 bytes) name) × FirstBad others bytes fault)

-- one field and then another; the first fault ends it
infixl 10 ◌>>=◌
abbrev pub ◌>>=◌ : {A B : Type 0} → Result A FieldFault → (A → Result B FieldFault) → Result B FieldFault
(Ok x) >>= f = f x
(Err fault) >>= f = Err fault
