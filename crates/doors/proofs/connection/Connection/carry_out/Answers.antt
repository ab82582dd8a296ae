use Rattle.std.proofs.Common.{refl, sym, ◌∙◌}
use Rattle.std.proofs.lemmas.Result.{on_ok_weaker}
use Rattle.nine.specs.declared.message.TBody.TheVariants as t
use Rattle.doors.proofs.ServeLemmas.{flushed, nobody, not_changed, not_created, write_alike}
use Rattle.doors.proofs.connection.Connection.carry_out.Goals as goal

pub returns-in-Flush-clause-ok : goal.returns-in-Flush-clause-ok
returns-in-Flush-clause-ok g c = on_ok_weaker c.put_flush.result (λ said done setting past keeps told.
    rw c.in-Flush.is (nobody (g.P.Port.stands setting) done past c.args.tag (t.Flush c.in-Flush.oldtag) c.args.self.now c.args.port.now _ _ refl told (flushed done c.args.tag c.in-Flush.oldtag c.args.self.now _ _ keeps said))) c.put_flush.ensures.ok

pub returns-in-Create-clause-ok : goal.returns-in-Create-clause-ok
returns-in-Create-clause-ok g c = on_ok_weaker c.put_error.result (λ said done setting past keeps told.
    rw c.in-Create.is (nobody (g.P.Port.stands setting) done past c.args.tag (t.Create c.in-Create.fid c.in-Create.name c.in-Create.perm c.in-Create.mode) c.args.self.now c.args.port.now _ _ refl told
    (not_created done c.args.tag c.in-Create.fid c.in-Create.name c.in-Create.perm c.in-Create.mode c.args.self.now _ _ keeps (rw c.text.ensures.text at said)))) c.put_error.ensures.ok

pub returns-in-Open-clause-ok : goal.returns-in-Open-clause-ok
returns-in-Open-clause-ok g c = on_ok_weaker c.open.result (λ served done setting past keeps told.
    rw c.in-Open.is (nobody (g.P.Port.stands setting) done past c.args.tag (t.Open c.in-Open.fid c.in-Open.mode) c.open.new.self c.args.port.now _ _ refl told (served done keeps))) (c.open.ensures.ok c.in-Open.mode)

pub write-requires-clause-tested : goal.write-requires-clause-tested
write-requires-clause-tested g c = rw c.as_slice-in-Write.ensures (sym (write_alike c.args.self.now.fids c.in-Write.fid c.in-Write.offset c.in-Write.content) ∙ rw c.in-Write.is at c.requires.tested)

pub returns-clause-ok : goal.returns-clause-ok
returns-clause-ok g c = on_ok_weaker c.put_error-in-Wstat.result (λ said done setting past keeps told.
    rw c.in-Wstat.is (nobody (g.P.Port.stands setting) done past c.args.tag (t.Wstat c.in-Wstat.fid c.in-Wstat.stat) c.args.self.now c.args.port.now _ _ refl told
    (not_changed done c.args.tag c.in-Wstat.fid c.in-Wstat.stat c.args.self.now _ _ keeps (rw c.text-in-Wstat.ensures.text at said)))) c.put_error-in-Wstat.ensures.ok
