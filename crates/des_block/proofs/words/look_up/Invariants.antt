use Rattle.std.proofs.Common.{◌≡◌, ◌*◌, ℕ, List, true, length}
use Rattle.des_block.specs.Bits.{binary, permuted}
use Rattle.des_block.specs.Rows.{are_rows}
use Rattle.des_block.proofs.WordLaws.{begun}
use Rattle.des_block.proofs.words.look_up.Given as goal

abbrev pub invariant-loop-i : goal.invariant-loop-i
invariant-loop-i g l = (table : List ℕ) → are_rows table 0 l.rows ≡ true → binary (length table) l.sum ≡ permuted table (begun (length l.rows) l.i (binary (4 * length l.rows) l.word))
