use Rattle.std.proofs.Common.{None}
use Rattle.auth_server.specs.Serving.{Moment, moment}
use Rattle.auth_program.specs.Serving.{Outside}
use Rattle.auth_program.proofs.ServeLemmas.{early_printable, has_core}
use Rattle.auth_program.proofs.tables.read_core.Goals as goal

pub returns-in-Ok-clause-ok : goal.returns-in-Ok-clause-ok
returns-in-Ok-clause-ok g c = has_core c.args.dom c.in-Ok.tables c.new.result _ _ _ _ c.in-Ok.ensures.ok c.new.ensures

pub returns-in-Err-clause-printable : goal.returns-in-Err-clause-printable
returns-in-Err-clause-printable g c =
    let client : Moment = moment None None None in
    let before : Outside = record { keys = g.F.Source.left c.args.keys.now; speaks = g.F.Source.left c.args.speaks.now; client = client } in
    let now : Outside = record { keys = g.F.Source.left c.read_tables.new.keys; speaks = g.F.Source.left c.read_tables.new.speaks; client = client } in
    early_printable c.in-Err.status before now (c.in-Err.ensures.err client)
