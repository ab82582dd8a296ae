use Rattle.std.proofs.Common.{◌≡◌, drop}
use Rattle.key_ring.specs.Wanting.{first_of}
use Rattle.key_ring.proofs.indexed_keys.find_among.Given as goal

-- among the numbers left stands what is found first
abbrev pub invariant-loop-serial : goal.invariant-loop-serial
invariant-loop-serial l = first_of l.wanted l.keys (drop l.serial-index l.serials) ≡ first_of l.wanted l.keys l.serials
