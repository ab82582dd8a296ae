-- What a run of the program has done, by its words: an option and the path of the table of keys.
use Rattle.std.specs.Prelude.{◌≡◌, ◌⊎◌, ℕ, List, true, false}
use Rattle.auth_program.specs.KeysWords.{are_keys_words}
use Rattle.pass_program.specs.Changing.{EndsSo, Outside}
use Rattle.pass_program.specs.declared.status.PassStatus.{PassStatus}
use Rattle.pass_program.specs.declared.status.PassStatus.TheVariants.{Usage}

-- what a run of the program with these words that ended so has read, drawn, written and noted: nothing exactly where
-- they aren't its words
abbrev pub RunsSo : List (List ℕ) → PassStatus → Outside → Outside → Type 0
RunsSo words status before now =
    ((are_keys_words words ≡ false) × (status ≡ Usage) × (now ≡ before))
    ⊎ ((are_keys_words words ≡ true) × EndsSo status before now)
