-- The words of a command line behind the program's name, as lists of bytes: the command's name and then options, each
-- with a value behind it. Options go by their long names (getopt_long(3), Argument Syntax), without `=` or `--`
-- alone.
use Rattle.std.specs.Prelude.{◌≡◌, ◌&&◌, ◌||◌, ℕ, List, [], ◌∷◌, Bool, true, false, codes, Option, Some, None, ◌⊎◌}
use Rattle.std.specs.Str.{bytes_eq}
use Rattle.auth_program.specs.Words.{IsAuthsrv, has_authsrv_form, is_authsrv, is_value}
use Rattle.world_program.specs.Words.{gen_given, has_gen_form, is_gen, is_world}
use Rattle.auth_program.specs.declared.status.Status.{Status}
use Rattle.auth_program.specs.declared.status.Status.TheVariants.{NoMemory, Usage}
use Rattle.factotum_program.specs.declared.words.Task.{Task}
use Rattle.factotum_program.specs.declared.words.Task.TheVariants.{Pipe, Authsrv, World, Gen}

-- ---- pipe

-- the words are the one word `pipe`
abbrev pub is_pipe_alone : List (List ℕ) → Bool
is_pipe_alone (word ∷ []) = bytes_eq word (codes "pipe")
is_pipe_alone words = false

-- behind the word `pipe` stands its option, with a value: the address of the authentication server
abbrev pub has_auth_form : List (List ℕ) → Bool
has_auth_form (name ∷ option ∷ value ∷ []) =
    bytes_eq name (codes "pipe") && (bytes_eq option (codes "--auth") && is_value value)
has_auth_form words = false

-- the words are those of `pipe`
abbrev pub is_pipe : List (List ℕ) → Bool
is_pipe words = is_pipe_alone words || has_auth_form words

-- the address that they give, if they do
abbrev pub auth_given : List (List ℕ) → Option (List ℕ)
auth_given (name ∷ option ∷ value ∷ []) = Some value
auth_given words = None

-- ---- what the words ask for

-- the words are a command's
abbrev pub is_command : List (List ℕ) → Bool
is_command words = is_pipe words || (is_authsrv words || (is_world words || is_gen words))

-- of one that reads the input, and of one that draws words
abbrev pub reads_input : List (List ℕ) → Bool
reads_input words = is_pipe words || (is_authsrv words || is_world words)

abbrev pub draws_words : List (List ℕ) → Bool
draws_words words = is_pipe words || is_authsrv words

-- the task of a command's words
abbrev pub IsTask : List (List ℕ) → Task → Type 0
IsTask words (Pipe auth) = (is_pipe words ≡ true) × (auth ≡ auth_given words)
IsTask words (Authsrv given) = IsAuthsrv words given
IsTask words World = is_world words ≡ true
IsTask words (Gen given) = gen_given words ≡ Some given

-- words of which clap reads values
abbrev pub has_options_form : List (List ℕ) → Bool
has_options_form words = has_auth_form words || (has_authsrv_form words || has_gen_form words)

-- why words have no task: they are no command's, or they have options and memory ran out
abbrev pub IsUnread : List (List ℕ) → Status → Type 0
IsUnread words status =
    ((status ≡ Usage) × (is_command words ≡ false)) ⊎ ((status ≡ NoMemory) × (has_options_form words ≡ true))
