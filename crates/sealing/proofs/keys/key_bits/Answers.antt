use Rattle.std.proofs.Common.{arith}
use Rattle.sealing.specs.Keys.{key_number}
use Rattle.sealing.proofs.keys.key_bits.Goals as goal

pub returns-clause-value : goal.returns-clause-value
unfolding key_number
returns-clause-value c = c.from_be_bytes.ensures

pub returns-clause-small : goal.returns-clause-small
returns-clause-small c = omega (arith, c.from_be_bytes.ensures, c.fits-key 0, c.fits-key 1, c.fits-key 2, c.fits-key 3, c.fits-key 4, c.fits-key 5, c.fits-key 6)
