use Rattle.std.proofs.Common.{Some, refl, sym, ap, ◌∙◌}
use Rattle.std.proofs.lemmas.Result.{on_ok_weaker}
use Rattle.doors.specs.declared.fid.Names.{Names}
use Rattle.doors.proofs.ServeLemmas.{opened_so}
use Rattle.doors.proofs.connection.Connection.open.Goals as goal

pub returns-clause-ok : goal.returns-clause-ok
returns-clause-ok c = λ mode. on_ok_weaker c.put_open-2.result (λ said done keeps.
    opened_so done c.args.self.now c.open_fid.new.self c.args.tag c.args.fid mode c.in-Some-File.named _ _ keeps (sym c.in-Some-File.ensures ∙ ap (λ (n : Names). Some n) c.in-Some-File.field-0-is)
    (c.open_fid.ensures done c.in-Some-File.named refl (sym c.in_ok-uname.ensures) keeps) (rw c.qid-2.ensures at said)) c.put_open-2.ensures.ok
