-- The length of what a table chooses, and a bit as a number.
use Rattle.std.proofs.Common.{◌≡◌, ℕ, ◌≤◌, Bool, true, false, List, length, arith}
use Rattle.std.specs.Int.{from_bool}
use Rattle.std.proofs.lemmas.List.{length-map}
use Rattle.des_block.specs.Bits.{bit_numbered, permuted}

pub length-permuted : (table : List ℕ) (bits : List Bool) → length (permuted table bits) ≡ length table
unfolding permuted
length-permuted table bits = length-map table (bit_numbered bits)

pub from_bool-small : (b : Bool) → from_bool b ≤ 1
from_bool-small true = omega arith
from_bool-small false = omega arith
