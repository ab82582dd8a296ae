use Rattle.std.proofs.Common.{arith, drop, take}
use Rattle.nine.proofs.StreamLaws.{short_there}
use Rattle.nine.proofs.BlockLemmas.{length_held}
use Rattle.nine.proofs.block_framer.BlockFramer.fill_within.Goals as goal

pub overflow_sub-self-inside : goal.overflow_sub-self-inside
overflow_sub-self-inside g c =
    let f = c.self.inside in
    let few = short_there f.limit (drop f.front (take f.end f.bytes.items)) c.self.invariant.3 (rw (← c.self.view_is) at c.requires.short) in
    omega (arith, few, length_held f.bytes.items f.front f.end c.self.invariant.1, c.self.invariant.4)

pub read_into-got-requires-clause-room : goal.read_into-got-requires-clause-room
read_into-got-requires-clause-room g c =
    let f = c.self.inside in
    let few = short_there f.limit (drop f.front (take f.end f.bytes.items)) c.self.invariant.3 (rw (← c.self.view_is) at c.requires.short) in
    omega (arith, few, length_held f.bytes.items f.front f.end c.self.invariant.1, c.self.invariant.4, c.min.ensures, c.requires.some)
