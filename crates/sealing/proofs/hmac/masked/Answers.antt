-- A step masks the byte at the index, and keeps the others.
use Rattle.std.proofs.Common.{arith, ◌<◌, length, slice_index_or}
use Rattle.std.specs.Prelude.{bit_xor}
use Rattle.std.proofs.lemmas.List.{get_or_default}
use Rattle.std.proofs.lemmas.List.Edits.{map_over_more}
use Rattle.sealing.proofs.hmac.masked.Goals as goal

pub loop-byte-preserved : goal.loop-byte-preserved
loop-byte-preserved c =
    let bytes = c.loop-byte.byte-items in
    let at = c.loop-byte.byte-index in
    let byte = slice_index_or bytes at 0 in
    let within : at < length c.args.block = omega arith in
    map_over_more (λ b. bit_xor b c.args.pad) c.args.block bytes at byte within
    c.loop-byte.invariant (get_or_default bytes at 0 byte (omega arith))
