use Rattle.std.proofs.Common.{Some, sym, ap, ◌∙◌}
use Rattle.std.proofs.lemmas.Result.{on_ok_weaker}
use Rattle.doors.specs.declared.fid.FileFid.{FileFid}
use Rattle.doors.specs.declared.fid.Names.{Names}
use Rattle.doors.proofs.ServeLemmas.{same_file}
use Rattle.doors.proofs.connection.Connection.read_file.Goals as goal

pub returns-in-Root-clause-ok : goal.returns-in-Root-clause-ok
returns-in-Root-clause-ok c = on_ok_weaker c.read_root.result (λ served done f keeps there.
    let is = sym (same_file c.in-Some-File.named f (sym (sym c.in-Some-File.ensures ∙ ap (λ (n : Names). Some n) c.in-Some-File.field-0-is) ∙ there)) in
    served done f keeps there (ap (λ (x : FileFid). x.file) is ∙ c.in-Root.is)) c.read_root.ensures.ok

pub returns-in-Who-clause-ok : goal.returns-in-Who-clause-ok
returns-in-Who-clause-ok c = on_ok_weaker c.read_who.result (λ served done f keeps there.
    let is = sym (same_file c.in-Some-File.named f (sym (sym c.in-Some-File.ensures ∙ ap (λ (n : Names). Some n) c.in-Some-File.field-0-is) ∙ there)) in
    served done c.args.fid f keeps there (ap (λ (x : FileFid). x.file) is ∙ c.in-Who.is) (ap (λ (x : FileFid). x.uname) is)) c.read_who.ensures.ok
