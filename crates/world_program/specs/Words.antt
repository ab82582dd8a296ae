-- The words of `world` and of `gen` behind the program's name, as lists of bytes: the command's name, and for `gen`
-- two options, each with a value behind it. Options go by their long names (getopt_long(3), Argument Syntax), without
-- `=` or `--` alone.
use Rattle.std.specs.Prelude.{◌≡◌, ◌==◌, ◌&&◌, nat_le, nat_lt, length, slice_index, ℕ, List, [], ◌∷◌, Bool, true, false, codes, if◌then◌else◌, Option, Some, None, is_some, ◌⊎◌}
use Rattle.std.specs.List.{list_all}
use Rattle.std.specs.Str.{bytes_eq}
use Rattle.side_files.specs.Decimals.{number_of}
use Rattle.auth_program.specs.Words.{is_among, is_value, value_of}
use Rattle.auth_program.specs.declared.status.Status.{Status}
use Rattle.auth_program.specs.declared.status.Status.TheVariants.{NoMemory, Usage}
use Rattle.world_program.specs.declared.words.GenWords.{GenWords}

-- ---- world

-- the words are the one word `world`
abbrev pub is_world : List (List ℕ) → Bool
is_world (word ∷ []) = bytes_eq word (codes "world")
is_world words = false

-- ---- gen

-- its options: the number that the script is made of, and how many rounds it has
abbrev pub gen_options : List (List ℕ)
gen_options = codes "--number" ∷ codes "--rounds" ∷ []

-- behind the word `gen` stand its two options, each of them once and with a value
abbrev pub has_gen_form : List (List ℕ) → Bool
has_gen_form (name ∷ first ∷ a ∷ second ∷ b ∷ []) = bytes_eq name (codes "gen")
    && (list_all (is_among (first ∷ second ∷ [])) gen_options && (is_value a && is_value b))
has_gen_form words = false

-- the value of one of its options
abbrev pub gen_value : List ℕ → List (List ℕ) → List ℕ
gen_value option [] = []
gen_value option (name ∷ words) = value_of option words

-- the number that a word is: decimal, without zeros (48) in front, and below 2^64
abbrev pub plain_number : List ℕ → Option ℕ
plain_number word = if nat_lt 1 (length word) && slice_index word 0 == 48 then None else number_of word

-- how many rounds a word asks for, 1 to 1000
abbrev pub rounds_in : Option ℕ → Option ℕ
rounds_in None = None
rounds_in (Some n) = if nat_lt 0 n && nat_le n 1000 then Some n else None

abbrev pub rounds_of : List ℕ → Option ℕ
rounds_of word = rounds_in (plain_number word)

abbrev pub both : Option ℕ → Option ℕ → Option GenWords
both (Some number) (Some rounds) = Some (record { number = number; rounds = rounds })
both number rounds = None

-- the values of the options, where the words are those of `gen`
abbrev pub gen_given : List (List ℕ) → Option GenWords
gen_given words =
    if has_gen_form words
    then both (plain_number (gen_value (codes "--number") words)) (rounds_of (gen_value (codes "--rounds") words))
    else None

-- the words are those of `gen`
abbrev pub is_gen : List (List ℕ) → Bool
is_gen words = is_some (gen_given words)

-- why words give none: they aren't those of `gen`, or they have their form and memory ran out
abbrev pub IsUnreadGen : List (List ℕ) → Status → Type 0
IsUnreadGen words status =
    ((status ≡ Usage) × (is_gen words ≡ false)) ⊎ ((status ≡ NoMemory) × (has_gen_form words ≡ true))
