-- Random words of eight bytes out of a number: the generator ChaCha20 (RFC 8439), made of the number as rand_core
-- makes one of a u64, gives 32 bits at a time, and two of these make a word.
use Rattle.std.specs.Prelude.{ℕ, zero, suc, List, [], ◌∷◌, ◌++◌}
use Rattle.std.specs.Int.{w32, to_le_bytes}
use Rattle.rand_core.specs.Pcg32Seed.{pcg32_seed}
use Rattle.rand_chacha.specs.ChaCha.{ChaCha, next_word, of_seed}
use Rattle.world_scripts.specs.declared.chacha.ChaChaWords.{ChaChaWords}

-- the generator that a number makes: the words of PCG32 from that number on are its seed
abbrev pub generator_of : ℕ → ChaCha
generator_of number = of_seed (pcg32_seed 32 number)

-- two draws of 32 bits, each with its lowest byte first, and the generator behind them
abbrev pub draw : ChaCha → List ℕ × ChaCha
draw rng =
    let first = next_word 10 rng in
    let second = next_word 10 first.1 in
    (to_le_bytes w32 first.0 ++ to_le_bytes w32 second.0, second.1)

-- so many words, one behind the other
abbrev pub draws : ℕ → ChaCha → List (List ℕ)
draws zero rng = []
draws (suc count) rng = (draw rng).0 ∷ draws count (draw rng).1

-- the words that are left, and how many draws failed
abbrev pub words_left : ChaChaWords → List (List ℕ)
words_left words = draws words.left words.rng

abbrev pub word_faults : ChaChaWords → ℕ
word_faults words = words.faults
