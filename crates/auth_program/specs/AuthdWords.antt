-- The words of the program's command line, as lists of bytes: options, each with a value behind it. They are those of
-- `authsrv`, one for the address at which the program listens, and three with numbers, which may be left out.
use Rattle.std.specs.Prelude.{◌≡◌, ◌&&◌, ◌+◌, ◌-◌, ◌*◌, ◌==◌, nat_le, ℕ, List, [], ◌∷◌, Bool, true, false, codes, is_some, Option, None, Some, if◌then◌else◌, ◌⊎◌}
use Rattle.std.specs.Str.{bytes_eq}
use Rattle.sockets.specs.Endings.{is_digit}
use Rattle.auth_program.specs.Words.{HasValues, is_authsrv, is_value, value_of}
use Rattle.auth_program.specs.declared.status.Status.{Status}
use Rattle.auth_program.specs.declared.status.Status.TheVariants.{NoMemory, Usage}
use Rattle.auth_program.specs.declared.authd_words.AuthdWords.{AuthdWords}
use Rattle.auth_program.specs.declared.authd_words.AuthdNumbers.{AuthdNumbers}
use Rattle.auth_program.specs.declared.authd_words.TheConstants.{CLIENTS, IDLE, MOST_CLIENTS, MOST_IDLE, PER_ADDRESS}

-- options and values without the first of an option, and its value
abbrev pub without : List ℕ → List (List ℕ) → List (List ℕ)
without option (name ∷ value ∷ words) = if bytes_eq name option then words else name ∷ value ∷ without option words
without option words = words

-- the address that the words give
abbrev pub address_of : List (List ℕ) → List ℕ
address_of words = value_of (codes "--listen") words

-- the words of `authsrv` that are the others
abbrev pub authsrv_words : List (List ℕ) → List (List ℕ)
authsrv_words words = codes "authsrv"
    ∷ without (codes "--per-address")
    (without (codes "--clients") (without (codes "--idle") (without (codes "--listen") words)))

-- ---- numbers

-- the number that digits make behind a number, where it is no more than the most
abbrev pub number_up_to : ℕ → ℕ → List ℕ → Option ℕ
number_up_to most n [] = Some n
number_up_to most n (b ∷ digits) =
    if is_digit b && nat_le (10 * n + (b - 48)) most then number_up_to most (10 * n + (b - 48)) digits else None

-- the number that a word is, from 1 to the most: decimal, without zeros (48) in front
abbrev pub number_in : ℕ → List ℕ → Option ℕ
number_in most [] = None
number_in most (b ∷ digits) = if b == 48 then None else number_up_to most 0 (b ∷ digits)

-- the number behind an option, and where the words don't give it the usual one
abbrev pub number_given : List ℕ → ℕ → ℕ → List (List ℕ) → Option ℕ
number_given option most usual (name ∷ value ∷ words) =
    if bytes_eq name option then number_in most value else number_given option most usual words
number_given option most usual words = Some usual

-- after how many seconds of silence a client is hung up, and how many are served at once, in all and of one address
abbrev pub idle_given : List (List ℕ) → Option ℕ
idle_given words = number_given (codes "--idle") MOST_IDLE IDLE words

abbrev pub clients_given : List (List ℕ) → Option ℕ
clients_given words = number_given (codes "--clients") MOST_CLIENTS CLIENTS words

abbrev pub per_address_given : List (List ℕ) → Option ℕ
per_address_given words = number_given (codes "--per-address") MOST_CLIENTS PER_ADDRESS words

-- each of the three is a number
abbrev pub are_numbers : List (List ℕ) → Bool
are_numbers words = is_some (idle_given words) && (is_some (clients_given words) && is_some (per_address_given words))

-- and these are they
pub record HasNumbers (words : List (List ℕ)) (numbers : AuthdNumbers) : Type 0 where
  pub idle : idle_given words ≡ Some numbers.idle
  pub clients : clients_given words ≡ Some numbers.limits.clients
  pub per_address : per_address_given words ≡ Some numbers.limits.per_address

-- ---- all of them

-- the words give an address and numbers, and the others are those of `authsrv`
abbrev pub is_authd : List (List ℕ) → Bool
is_authd words = is_value (address_of words) && (are_numbers words && is_authsrv (authsrv_words words))

-- the words are the program's, with these values
abbrev pub IsAuthd : List (List ℕ) → AuthdWords → Type 0
IsAuthd words given = (is_authd words ≡ true)
    × ((given.listen ≡ address_of words)
    × (HasNumbers words given.numbers × HasValues (authsrv_words words) given.given))

-- why words give none: they aren't the program's, or they give an address and memory ran out
abbrev pub IsUnreadAuthd : List (List ℕ) → Status → Type 0
IsUnreadAuthd words status =
    ((status ≡ Usage) × (is_authd words ≡ false)) ⊎ ((status ≡ NoMemory) × (is_value (address_of words) ≡ true))
