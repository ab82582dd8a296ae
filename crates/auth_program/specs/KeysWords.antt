-- The words of a program that has one file of keys, behind its name: an option and the path of that file.
use Rattle.std.specs.Prelude.{ℕ, List, [], ◌∷◌, Bool, false, ◌&&◌, codes}
use Rattle.std.specs.Str.{bytes_eq}
use Rattle.auth_program.specs.Words.{is_value}

-- whether the words are `--keys` and a path
abbrev pub are_keys_words : List (List ℕ) → Bool
are_keys_words (option ∷ path ∷ []) = bytes_eq option (codes "--keys") && is_value path
are_keys_words words = false

-- the path
abbrev pub keys_path_of : List (List ℕ) → List ℕ
keys_path_of (option ∷ path ∷ []) = path
keys_path_of words = []
