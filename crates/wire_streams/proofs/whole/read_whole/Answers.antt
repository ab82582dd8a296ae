use Rattle.std.proofs.Common.{◌<◌, ◌-◌, ◌≤◌, ◌++◌, length, take, arith, length-append}
use Rattle.std.proofs.KnownBytes.{Consumes-trans}
use Rattle.std.proofs.lemmas.List.{length-take-le}
use Rattle.wire_streams.proofs.StreamLemmas.{floods, no_flood}
use Rattle.wire_streams.proofs.whole.read_whole.Goals as goal

pub returns-then-count-limit-clause-err : goal.returns-then-count-limit-clause-err
returns-then-count-limit-clause-err g c =
    let got = c.in-Bytes.ensures.bytes in
    let past : c.args.limit - length c.loop-count.bytes.items < c.in-Bytes.count = omega (arith, c.loop-count.bytes.ok.0) in
    floods _ _ _ _ _ _ _ got.1 (omega (arith, c.read.auto.out, c.loop-count.invariant.room)) (omega (arith, c.loop-count.bytes.ok.0, c.loop-count.invariant.within)) past c.loop-count.invariant.consumed got.2

pub returns-then-is_err-clause-err : goal.returns-then-is_err-clause-err
returns-then-is_err-clause-err g c =
    let got = c.in-Bytes.ensures.bytes in
    let kept = c.loop-count.bytes.items in
    let more = take c.in-Bytes.count c.read.new.out in
    let within : length (kept ++ more) ≤ c.args.limit
    = omega (arith, c.loop-count.bytes.ok.0, length-append kept more, length-take-le c.in-Bytes.count c.read.new.out got.1) in
    no_flood _ _ _ _ _ (λ is. cc) within (Consumes-trans _ _ _ kept more c.loop-count.invariant.consumed got.2)
