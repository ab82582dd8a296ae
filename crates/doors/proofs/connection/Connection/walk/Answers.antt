use Rattle.std.proofs.Common.{Some, sym, ap, ◌∙◌}
use Rattle.std.proofs.lemmas.Result.{on_ok_weaker}
use Rattle.doors.specs.declared.fid.Names.{Names}
use Rattle.doors.proofs.ServeLemmas.{walked_so}
use Rattle.doors.proofs.connection.Connection.walk.Goals as goal

pub returns-clause-ok : goal.returns-clause-ok
returns-clause-ok c = on_ok_weaker c.put_walk-2.result (λ said done keeps.
    walked_so done c.args.self.now c.move_to.new.self c.args.tag c.args.fid c.args.newfid c.args.wname.now c.in-Some-File.from _ _ keeps (sym c.in-Some-File.ensures ∙ ap (λ (n : Names). Some n) c.in-Some-File.field-0-is)
    (rw c.in_ok-qids.ensures.end at (c.in_ok-move_to.ensures done c.args.fid c.in-Some-File.from (sym c.in_ok-uname.ensures) keeps))
    (rw (c.as_slice.ensures, c.in_ok-qids.ensures.visited) at said)) c.put_walk-2.ensures.ok
