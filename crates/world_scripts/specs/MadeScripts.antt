-- What holds of every script that is made of a number, of as many rounds as one may have.
use Rattle.std.specs.Prelude.{◌≡◌, ◌≤◌, ℕ, ◌^◌, length, map, Some}
use Rattle.world_scripts.specs.Reading.{line_of}
use Rattle.world_scripts.specs.Scripts.{script_lines}
use Rattle.world_scripts.specs.Generated.{gen_lines, gen_text}

abbrev pub most_rounds : ℕ
most_rounds = 1000

-- it isn't longer than a script may be
abbrev pub MadeIsShort : Type 0
MadeIsShort = (number rounds : ℕ) → rounds ≤ most_rounds → length (gen_text number rounds) ≤ 2 ^ 22

-- its lines are those that it is made of, each read as it was written: none has a bad form, and none is skipped
abbrev pub MadeIsRead : Type 0
MadeIsRead = (number rounds : ℕ) → rounds ≤ most_rounds
    → map (λ l. line_of l.text) (script_lines (gen_text number rounds)) ≡ map Some (gen_lines number rounds)
