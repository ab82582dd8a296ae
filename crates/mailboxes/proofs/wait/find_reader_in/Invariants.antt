use Rattle.std.proofs.Common.{◌≡◌, drop}
use Rattle.mailboxes.specs.Kept.{reader_in}
use Rattle.mailboxes.proofs.wait.find_reader_in.Given as goal

abbrev pub invariant-loop-wait : goal.invariant-loop-wait
invariant-loop-wait l = reader_in l.fid (drop l.wait-index l.waits) ≡ reader_in l.fid l.waits
