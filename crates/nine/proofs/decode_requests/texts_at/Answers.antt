use Rattle.std.proofs.lemmas.Result.{err_from_is_err_and}
use Rattle.wire_base.specs.Readers.{string, times}
use Rattle.wire_base.proofs.LoopLaws.{goes_on, ends, is_done}
use Rattle.nine.proofs.decode_requests.texts_at.Goals as goal

pub returns-in_err-text : goal.returns-in_err-text
returns-in_err-text c =
    let p = err_from_is_err_and c.from_residual.result c.from_residual.ensures.1 in
    rw (p.1, p.2) (ends string c.in_err-text.field-0.0 c.loop.texts c.args.count c.loop.counter c.args.bytes.now c.loop.next (times string c.args.count c.args.bytes.now c.args.at) c.loop-test.true c.in_err-text.ensures c.loop.invariant)

pub loop-preserved : goal.loop-preserved
loop-preserved c =
    rw c.in_ok-push.ensures.ok (goes_on string c.loop.texts c.args.count c.loop.counter c.args.bytes.now c.loop.next c.in_ok-text.text c.in_ok-text.after (times string c.args.count c.args.bytes.now c.args.at) c.loop-test.true c.in_ok-text.ensures c.loop.invariant)

pub returns : goal.returns
returns c = is_done string c.loop.texts c.args.count c.loop.counter c.args.bytes.now c.loop.next (times string c.args.count c.args.bytes.now c.args.at) c.loop-test.false c.loop.invariant
