-- The words of the program's command line, as lists of bytes: the command's name, and its options, each with its
-- value behind it, in any order. Options go by their long names (getopt_long(3), Argument Syntax), without `=`.
use Rattle.std.specs.Prelude.{ℕ, ◌+◌, ◌<◌, ◌==◌, nat_le, nat_lt, length, List, [], ◌∷◌, Bool, true, false, not, ◌&&◌, codes, slice_index, slice_index_or, if◌then◌else◌, Option, Some, None, is_some}
use Rattle.std.specs.Str.{bytes_eq}
use Rattle.auth_program.specs.Words.{is_among, is_value}
use Rattle.side_files.specs.Decimals.{number_of}
use Rattle.agent_serving.specs.declared.words.ServeWords.{ServeWords}
use Rattle.agent_serving.specs.declared.words.TheConstants.{CONSENTS, ASKS, MOST_ASKS}

-- where it listens, the authentication server, how many questions are answered by yes, and how many may be asked at a
-- time
abbrev pub serve_options : List (List ℕ)
serve_options = codes "--listen" ∷ codes "--auth" ∷ codes "--consent" ∷ codes "--asks" ∷ []

-- the place of the value behind an option, where that is given; the words are options and values, counted from this
-- number
abbrev pub place_of : List ℕ → ℕ → List (List ℕ) → Option ℕ
place_of option at (name ∷ value ∷ words) =
    if bytes_eq name option then Some (at + 1)
    else place_of option (at + 2) words
place_of option at words = None

-- the words are options, each with a value, and none is given twice
abbrev pub are_options : List (List ℕ) → Bool
are_options (name ∷ value ∷ words) =
    is_among serve_options name && (is_value value && (not (is_some (place_of name 0 words)) && are_options words))
are_options (name ∷ []) = false
are_options [] = true

-- the number that a word is: decimal, without zeros (48) in front, and below 2^32
abbrev pub below : Option ℕ → Option ℕ
below None = None
below (Some n) = if nat_lt n 4294967296 then Some n else None

abbrev pub plain_number : List ℕ → Option ℕ
plain_number digits = below (number_of digits)

abbrev pub number_in : List ℕ → Option ℕ
number_in word = if nat_lt 1 (length word) && slice_index word 0 == 48 then None else plain_number word

-- the number at a place, and where there is no place the usual one
abbrev pub number_at : ℕ → List (List ℕ) → Option ℕ → Option ℕ
number_at usual words None = Some usual
number_at usual words (Some place) = number_in (slice_index_or words place [])

-- the number that an option gives
abbrev pub number_behind : List ℕ → ℕ → List (List ℕ) → Option ℕ
number_behind option usual words = number_at usual words (place_of option 0 words)

-- a number from 1 to the most
abbrev pub few_asks : Option ℕ → Option ℕ
few_asks None = None
few_asks (Some n) = if nat_le 1 n && nat_le n MOST_ASKS then Some n else None

-- what is given, where an address to listen at and the numbers are
abbrev pub served : Option ℕ → Option ℕ → Option ℕ → Option ℕ → Option ServeWords
served None auth consents asks = None
served (Some listen) auth None asks = None
served (Some listen) auth (Some consents) None = None
served (Some listen) auth (Some consents) (Some asks) =
    Some (record { listen = listen; auth = auth; consents = consents; asks = asks })

-- what the options say behind the command's name, which is the word of the number 0
abbrev pub options_in : List (List ℕ) → Option ServeWords
options_in words =
    if are_options words
    then served (place_of (codes "--listen") 1 words) (place_of (codes "--auth") 1 words)
    (number_behind (codes "--consent") CONSENTS words) (few_asks (number_behind (codes "--asks") ASKS words))
    else None

-- what the words say, where they are those of the command
abbrev pub serve_words : List (List ℕ) → Option ServeWords
serve_words [] = None
serve_words (name ∷ words) = if bytes_eq name (codes "serve") then options_in words else None

-- a place, if there is one, is below a number
abbrev pub IsBelow : Option ℕ → ℕ → Type 0
IsBelow None n = Unit {0}
IsBelow (Some place) n = place < n

abbrev pub AreBelow : ServeWords → ℕ → Type 0
AreBelow given n = (given.listen < n) × IsBelow given.auth n

-- a place, if there is one, is that of a word
abbrev pub IsWithin : Option ℕ → List (List ℕ) → Type 0
IsWithin place words = IsBelow place (length words)

-- the places are those of words
abbrev pub AreWithin : ServeWords → List (List ℕ) → Type 0
AreWithin given words = AreBelow given (length words)
