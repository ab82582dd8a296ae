use Rattle.std.proofs.Common.{rules, ◌≡◌, ◌<◌, [], length, arith}
use Rattle.wire_streams.proofs.HandLemmas.{hand_held, hand_read}
use Rattle.wire_streams.proofs.read_ahead.ReadAheadSource.read.Goals as goal

pub returns-then-not-is_empty-clause-bytes : goal.returns-then-not-is_empty-clause-bytes
returns-then-not-is_empty-clause-bytes g c =
    let took = c.take_into.ensures in
    let some : 0 < length c.args.self.now.held = search rules in
    (omega (arith, took.count, c.requires, some), omega (arith, took.count, c.take_into.auto.out), rw took.left (hand_held _ _ _ _ took.moved))

pub returns-in-Bytes-clause-bytes : goal.returns-in-Bytes-clause-bytes
returns-in-Bytes-clause-bytes g c =
    let took = c.take_into-in-Bytes.ensures in
    let got = c.in-Bytes.ensures.bytes in
    let none : c.args.self.now.held ≡ [] = search rules in
    (omega (arith, took.count, c.requires, got.0), omega (arith, took.count, c.take_into-in-Bytes.auto.out), rw took.left (hand_read _ _ _ _ _ _ none got.1 took.moved))
