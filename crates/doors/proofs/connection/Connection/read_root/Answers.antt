use Rattle.std.proofs.Common.{Some, sym, ap, ◌∙◌}
use Rattle.std.proofs.lemmas.Result.{on_ok_weaker}
use Rattle.doors.specs.declared.fid.FileFid.{FileFid}
use Rattle.doors.specs.declared.fid.Names.{Names}
use Rattle.doors.proofs.ReadLemmas.{read_root}
use Rattle.doors.proofs.ServeLemmas.{same_file}
use Rattle.doors.proofs.connection.Connection.read_root.Goals as goal

pub returns-clause-ok : goal.returns-clause-ok
returns-clause-ok c = on_ok_weaker c.put_read-2.result (λ said done f keeps there file.
    let is = sym (same_file c.in-Some-File.named f (sym (sym c.in-Some-File.ensures ∙ ap (λ (n : Names). Some n) c.in-Some-File.field-0-is) ∙ there)) in
    read_root done c.args.self.now c.read_to.new.self c.args.tag c.args.fid c.args.offset c.args.count f _ _ keeps there file
    (rw (c.listed-content.ensures.listed, c.room.ensures.room) at (c.read_to.ensures done f file (ap (λ (x : FileFid). x.uname) is ∙ sym c.in_ok-uname.ensures) (ap (λ (x : FileFid). x.is_open) is) keeps))
    (rw (c.listed-content.ensures.listed, c.room.ensures.room) at said)) c.put_read-2.ensures.ok
