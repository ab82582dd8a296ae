use Rattle.std.proofs.lemmas.Result.{err_from_is_err_and}
use Rattle.wire_base.specs.Readers.{times}
use Rattle.wire_base.specs.declared.reader.CodecFault.TheVariants.{Bad}
use Rattle.nine.specs.Decoding.{qid_at}
use Rattle.wire_base.proofs.LoopLaws.{goes_on, ends, is_done}
use Rattle.nine.proofs.decode_replies.qids_at.Goals as goal

pub returns-in_err-qid : goal.returns-in_err-qid
returns-in_err-qid c =
    let p = err_from_is_err_and c.from_residual.result c.from_residual.ensures.1 in
    rw (p.1, p.2) (ends qid_at (Bad c.in_err-qid.field-0.0) c.loop.qids c.args.count c.loop.counter c.args.bytes.now c.loop.next (times qid_at c.args.count c.args.bytes.now c.args.at) c.loop-test.true c.in_err-qid.ensures c.loop.invariant)

pub loop-preserved : goal.loop-preserved
loop-preserved c =
    rw c.in_ok-push.ensures.ok (goes_on qid_at c.loop.qids c.args.count c.loop.counter c.args.bytes.now c.loop.next c.in_ok-qid.qid c.in_ok-qid.after (times qid_at c.args.count c.args.bytes.now c.args.at) c.loop-test.true c.in_ok-qid.ensures c.loop.invariant)

pub returns : goal.returns
returns c = is_done qid_at c.loop.qids c.args.count c.loop.counter c.args.bytes.now c.loop.next (times qid_at c.args.count c.args.bytes.now c.args.at) c.loop-test.false c.loop.invariant
