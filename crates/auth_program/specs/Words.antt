-- The words of `authsrv` behind the program's name, as lists of bytes: the command's name and then options, each with
-- a value behind it. Options go by their long names (getopt_long(3), Argument Syntax), without `=` or `--` alone.
use Rattle.std.specs.Prelude.{◌≡◌, ◌==◌, ◌&&◌, ℕ, List, [], ◌∷◌, Bool, true, false, not, codes, if◌then◌else◌, ◌⊎◌}
use Rattle.std.specs.List.{list_all, list_any}
use Rattle.std.specs.Str.{bytes_eq}
use Rattle.attr_tuples.specs.Forms.{is_dom}
use Rattle.auth_program.specs.declared.status.Status.{Status}
use Rattle.auth_program.specs.declared.status.Status.TheVariants.{NoMemory, Usage}
use Rattle.auth_program.specs.declared.words.AuthsrvWords.{AuthsrvWords}

-- a value isn't empty and doesn't begin with a hyphen (45)
abbrev pub is_value : List ℕ → Bool
is_value [] = false
is_value (byte ∷ bytes) = not (byte == 45)

-- a word is one of these
abbrev pub is_among : List (List ℕ) → List ℕ → Bool
is_among words word = list_any (λ other. bytes_eq other word) words

-- the value behind an option; the words are options and values
abbrev pub value_of : List ℕ → List (List ℕ) → List ℕ
value_of option (name ∷ value ∷ words) = if bytes_eq name option then value else value_of option words
value_of option words = []

-- the options of `authsrv`: its authentication domain, the file of keys, and the file of who speaks for whom
abbrev pub authsrv_options : List (List ℕ)
authsrv_options = codes "--dom" ∷ codes "--keys" ∷ codes "--speaks" ∷ []

-- behind the word `authsrv` stand its three options, each of them once and with a value
abbrev pub has_authsrv_form : List (List ℕ) → Bool
has_authsrv_form (name ∷ first ∷ a ∷ second ∷ b ∷ third ∷ c ∷ []) = bytes_eq name (codes "authsrv")
    && (list_all (is_among (first ∷ second ∷ third ∷ [])) authsrv_options && (is_value a && (is_value b && is_value c)))
has_authsrv_form words = false

-- the value of one of its options
abbrev pub authsrv_value : List ℕ → List (List ℕ) → List ℕ
authsrv_value option [] = []
authsrv_value option (name ∷ words) = value_of option words

-- the words are those of `authsrv`, and its domain is one
abbrev pub is_authsrv : List (List ℕ) → Bool
is_authsrv words = has_authsrv_form words && is_dom (authsrv_value (codes "--dom") words)

-- each value is the one behind its option
pub record HasValues (words : List (List ℕ)) (given : AuthsrvWords) : Type 0 where
  pub dom : given.dom ≡ authsrv_value (codes "--dom") words
  pub keys : given.keys ≡ authsrv_value (codes "--keys") words
  pub speaks : given.speaks ≡ authsrv_value (codes "--speaks") words

-- the words are those of `authsrv`, with these values
abbrev pub IsAuthsrv : List (List ℕ) → AuthsrvWords → Type 0
IsAuthsrv words given = (is_authsrv words ≡ true) × HasValues words given

-- why words give none: they aren't those of `authsrv`, or they have their form and memory ran out
abbrev pub IsUnreadAuthsrv : List (List ℕ) → Status → Type 0
IsUnreadAuthsrv words status =
    ((status ≡ Usage) × (is_authsrv words ≡ false)) ⊎ ((status ≡ NoMemory) × (has_authsrv_form words ≡ true))
