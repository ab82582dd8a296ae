use Rattle.std.proofs.Common.{[], ◌∷◌, ◌++◌, ◌∙◌}
use Rattle.wire_histories.proofs.LineLemmas.{no_digits, digits_more}
use Rattle.wire_histories.proofs.line.put_digits.Goals as goal

pub loop-byte-init : goal.loop-byte-init
loop-byte-init c = c.in_ok-push.ensures.ok ∙ no_digits (c.args.out.now ++ 32 ∷ [])

pub loop-byte-preserved : goal.loop-byte-preserved
loop-byte-preserved c = digits_more (c.args.out.now ++ 32 ∷ []) c.loop-byte.out c.append.new.self c.digits_of.result c.args.bytes.now c.loop-byte.byte-index 0 c.loop-byte-test.true c.loop-byte.invariant c.digits_of.ensures c.in_ok-append.ensures.ok
