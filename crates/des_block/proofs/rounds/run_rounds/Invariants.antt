use Rattle.std.proofs.Common.{◌≡◌, drop, map}
use Rattle.des_block.specs.Bits.{binary}
use Rattle.des_block.specs.Rounds.{after_rounds}
use Rattle.des_block.proofs.rounds.run_rounds.Given as goal

abbrev pub invariant-loop-key : goal.invariant-loop-key
invariant-loop-key l = after_rounds (drop l.key-index (map (binary 48) l.keys)) (binary 32 l.halves.0) (binary 32 l.halves.1) ≡ after_rounds (map (binary 48) l.keys) (binary 32 l.fn.left) (binary 32 l.fn.right)
