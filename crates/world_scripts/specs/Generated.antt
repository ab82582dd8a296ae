-- A script that is made of the random words of a number: two users and two nodes with their keys, and then rounds.
use Rattle.std.specs.Prelude.{ℕ, zero, suc, ◌+◌, ◌*◌, List, [], ◌∷◌, ◌++◌, codes, drop}
use Rattle.std.specs.List.{flat_map, slice_index_or}
use Rattle.world_scripts.specs.Draws.{draws, generator_of}
use Rattle.world_scripts.specs.Lines.{ScriptLine, AsKey, Node, Ctl, line_text}
use Rattle.world_scripts.specs.declared.round.Drawn.{Drawn}
use Rattle.world_scripts.specs.Rounds.{kind_of, recorded, round_lines}

-- ---- text

-- a line and its newline
unfoldable pub line : ScriptLine → List ℕ
line l = line_text l ++ 10 ∷ []

abbrev pub lines_text : List ScriptLine → List ℕ
lines_text lines = flat_map line lines

-- ---- words

abbrev pub word : ℕ → List (List ℕ) → List ℕ
word n words = slice_index_or words n []

-- how many words a round draws, and what they are for: the start of the client, that of the server, and the three of
-- the authentication server
abbrev pub words_of_round : ℕ
words_of_round = 5

abbrev pub drawn : List (List ℕ) → Drawn
drawn words = record {
  client = word 0 words;
  server = word 1 words;
  first = word 2 words;
  second = word 3 words;
  third = word 4 words;
}

-- ---- the script

abbrev pub opening : List ScriptLine
opening =
    AsKey (codes "user=ann !password=annpass")
    ∷ AsKey (codes "user=srv !password=srvpass")
    ∷ Node (codes "a")
    ∷ Node (codes "b")
    ∷ Ctl (codes "a") (codes "key proto=p9sk1 dom=x user=ann !password=annpass")
    ∷ Ctl (codes "b") (codes "key proto=p9sk1 dom=x user=srv !password=srvpass")
    ∷ []

-- so many rounds from this one on, where the first message of the round before it and its own have these numbers, by
-- the words that are left
abbrev pub rounds_from : ℕ → ℕ → ℕ → ℕ → List (List ℕ) → List ScriptLine
rounds_from zero round before first words = []
rounds_from (suc n) round before first words =
    round_lines round before first (drawn words)
    ++ rounds_from n (round + 1) first (first + recorded (kind_of round)) (drop 5 words)

-- the lines of the script of a number, and the script
abbrev pub gen_lines : ℕ → ℕ → List ScriptLine
gen_lines number rounds =
    opening ++ rounds_from rounds 0 0 0 (draws (words_of_round * rounds) (generator_of number))

unfoldable pub gen_text : ℕ → ℕ → List ℕ
gen_text number rounds = lines_text (gen_lines number rounds)
