use Rattle.std.proofs.Common.{◌≡◌, map}
use Rattle.mailboxes.specs.Mails.{settle_fid}
use Rattle.mailboxes.specs.Kept.{pending_of, error_frame}
use Rattle.mailboxes.proofs.WaitLemmas.{settled_to}
use Rattle.mailboxes.proofs.wait.settle_fid.Given as goal

abbrev pub invariant-loop-wait : goal.invariant-loop-wait
invariant-loop-wait l = map pending_of l.waits ≡ settled_to (settle_fid l.fid (error_frame l.text)) l.wait-index (map pending_of l.fn.waits)
