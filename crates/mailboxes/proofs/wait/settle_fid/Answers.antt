use Rattle.std.proofs.Common.{map, arith, ◌∙◌, add-one}
use Rattle.std.proofs.lemmas.List.{length-map}
use Rattle.mailboxes.specs.Mails.{settle_fid}
use Rattle.mailboxes.specs.Kept.{pending_of, error_frame}
use Rattle.mailboxes.proofs.WaitLemmas.{one_settled, all_settled}
use Rattle.mailboxes.proofs.wait.settle_fid.Goals as goal

pub loop-wait-preserved : goal.loop-wait-preserved
loop-wait-preserved c = rw add-one (one_settled (settle_fid c.args.fid (error_frame c.args.text.now)) c.loop-wait.waits (map pending_of c.args.waits.now) c.loop-wait.wait-index c.give_up.new.self c.wait-item.result
    c.loop-wait.invariant (omega (arith, c.loop-wait-test.true, c.loop-wait.auto.waits)) c.give_up.ensures)

pub returns : goal.returns
returns c = c.loop-wait.invariant ∙ all_settled (settle_fid c.args.fid (error_frame c.args.text.now)) (map pending_of c.args.waits.now) c.loop-wait.wait-index (omega (arith, c.loop-wait-test.false, length-map c.args.waits.now pending_of))
