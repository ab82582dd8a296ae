-- What is answered of a word that is taken as Words says.
use Rattle.std.specs.Prelude.{◌≡◌, ℕ, List, drop, Result, Ok, Err}
use Rattle.attr_tuples.specs.Words.{Cut}
use Rattle.attr_tuples.specs.declared.word.WordFault.{WordFault}
use Rattle.attr_tuples.specs.declared.word.WordFault.TheVariants.{Quote, NoMemory}

-- the word and the place behind it, or the open quote, unless memory ran out
abbrev pub Takes : Result ℕ WordFault → List ℕ → List ℕ → Result Cut ℕ → Type 0
Takes (Ok end) word text reading = reading ≡ Ok (record { bytes = word; end = end; behind = drop end text })
Takes (Err (Quote at)) word text reading = reading ≡ Err at
Takes (Err NoMemory) word text reading = Unit {0}
