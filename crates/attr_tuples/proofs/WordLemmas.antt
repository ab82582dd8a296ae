-- A word that is taken byte by byte is one: steps of the loop.
use Rattle.std.proofs.Common.{◌≡◌, ℕ, ◌+◌, List, [], ◌∷◌, ◌++◌, true, false, Result, Ok, Err, refl, sym, ap, append_assoc}
use Rattle.attr_tuples.specs.declared.word.Place.{Place}
use Rattle.attr_tuples.specs.Words.{Cut, prefixed, stops, kept, place_after, unquote}

pub prefixed_none : (r : Result Cut ℕ) → prefixed [] r ≡ r
prefixed_none (Ok cut) = refl
prefixed_none (Err at) = refl

pub prefixed_twice : (a b : List ℕ) (r : Result Cut ℕ) → prefixed a (prefixed b r) ≡ prefixed (a ++ b) r
prefixed_twice a b (Ok cut) = ap (λ (bytes : List ℕ). Ok (record { bytes = bytes; end = cut.end; behind = cut.behind })) (sym (append_assoc a b cut.bytes))
prefixed_twice a b (Err at) = refl

-- a byte that doesn't end the word
pub unquote_on : (place : Place) (at b : ℕ) (rest : List ℕ) → stops place b ≡ false → unquote place at (b ∷ rest) ≡ prefixed (kept place b) (unquote (place_after place at b) (at + 1) rest)
unquote_on place at b rest goes = rw goes refl

-- a byte that ends it
pub unquote_stop : (place : Place) (at b : ℕ) (rest : List ℕ) → stops place b ≡ true → unquote place at (b ∷ rest) ≡ Ok (record { bytes = []; end = at; behind = b ∷ rest })
unquote_stop place at b rest stop = rw stop refl
