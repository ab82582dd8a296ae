-- What holds of every run of a script that is made of a number, of as many rounds as one may have: what `gen` writes is
-- never refused. The words of the script are this project's.
use Rattle.std.specs.Prelude.{◌≡◌, ◌≤◌, ℕ, None}
use Rattle.world_scripts.specs.Generated.{gen_text}
use Rattle.world_scripts.specs.MadeScripts.{most_rounds}
use Rattle.world_history.specs.Scripts.{play}

-- no line of it is refused
abbrev pub MadeIsNotRefused : Type 0
MadeIsNotRefused = (number rounds : ℕ) → rounds ≤ most_rounds → (play (gen_text number rounds)).refused ≡ None
