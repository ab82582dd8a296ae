-- The words of a line of labels, one blank between each two, and what a word says: a number below 2^32, decimal without
-- zeros in front; bytes, as hexadecimal digits of either case; or a key name, as such digits of its bytes. The form is
-- this project's.
use Rattle.std.specs.Prelude.{◌≡◌, ◌⊎◌, ℕ, ◌<◌, ◌^◌, List, [], ◌==◌, length, codes, true, Ok}
use Rattle.std.specs.List.{slice_split}
use Rattle.std.specs.Fmt.{decimal}
use Rattle.hex.specs.Hex.{decode_of}
use Rattle.wire_base.specs.Texts.{is_text}

abbrev pub Word : Type 0
Word = List ℕ

abbrev pub words_of : List ℕ → List Word
words_of line = slice_split (λ b. b == 32) line

-- numbers are those that a term, a step or a place can have
abbrev pub IsSmall : ℕ → Type 0
IsSmall number = number < 2 ^ 32

abbrev pub IsNumber : ℕ → Word → Type 0
IsNumber number word = (word ≡ decimal number) × IsSmall number

-- bytes as digits, two for each: at least one byte
abbrev pub IsDigits : List ℕ → Word → Type 0
IsDigits bytes word = (0 < length word) × (decode_of word ≡ Ok bytes)

-- bytes: as digits, or `-` for none
abbrev pub IsHex : List ℕ → Word → Type 0
IsHex bytes word = ((word ≡ codes "-") × (bytes ≡ [])) ⊎ IsDigits bytes word

-- a key name: the digits of a text
abbrev pub IsKeyName : List ℕ → Word → Type 0
IsKeyName name word = IsDigits name word × (is_text name ≡ true)
