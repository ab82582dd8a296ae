use Rattle.std.proofs.Common.{sym, subst}
use Rattle.auth_server.specs.Serving.{Moment, moment}
use Rattle.auth_program.specs.declared.status.Status.{Status}
use Rattle.auth_program.specs.Serving.{Outside, ServesSo, outside}
use Rattle.auth_program.proofs.ServeLemmas.{early_is_other, early_serves, serves, serves_so}
use Rattle.auth_program.proofs.authsrv.serve.Goals as goal

pub returns-in-Ok-clause-ends : goal.returns-in-Ok-clause-ends
returns-in-Ok-clause-ends g c =
    let before : Outside = outside (g.F.Source.left c.args.keys.now) (g.F.Source.left c.args.speaks.now) (g.R.Source.left c.args.input.now) (g.G.Words.to_come c.args.rand.now) (g.W.Sink.holds c.args.output.now) in
    let now : Outside = outside (g.F.Source.left c.read_core.new.keys) (g.F.Source.left c.read_core.new.speaks) (g.R.Source.left c.serve_auth.new.source) (g.G.Words.to_come c.serve_auth.new.words) (g.W.Sink.holds c.serve_auth.new.sink) in
    let end = c.serve_auth.result in
    subst (λ (s : Status). ServesSo c.args.dom s before now) (sym c.status_of_end.ensures.same)
    (serves_so c.args.dom end before now (serves c.args.dom c.in-Ok.core end before now c.in-Ok.ensures.ok c.serve_auth.ensures.ends))

pub returns-in-Err-clause-ends : goal.returns-in-Err-clause-ends
returns-in-Err-clause-ends g c =
    let client : Moment = moment (g.R.Source.left c.args.input.now) (g.G.Words.to_come c.args.rand.now) (g.W.Sink.holds c.args.output.now) in
    let before : Outside = record { keys = g.F.Source.left c.args.keys.now; speaks = g.F.Source.left c.args.speaks.now; client = client } in
    let now : Outside = record { keys = g.F.Source.left c.read_core.new.keys; speaks = g.F.Source.left c.read_core.new.speaks; client = client } in
    early_serves c.args.dom c.in-Err.status before now (c.in-Err.ensures.err client)

pub returns-in-Err-clause-write_fault : goal.returns-in-Err-clause-write_fault
returns-in-Err-clause-write_fault g c =
    let client : Moment = moment (g.R.Source.left c.args.input.now) (g.G.Words.to_come c.args.rand.now) (g.W.Sink.holds c.args.output.now) in
    let before : Outside = record { keys = g.F.Source.left c.args.keys.now; speaks = g.F.Source.left c.args.speaks.now; client = client } in
    let now : Outside = record { keys = g.F.Source.left c.read_core.new.keys; speaks = g.F.Source.left c.read_core.new.speaks; client = client } in
    λ e. absurd ((early_is_other c.in-Err.status before now (c.in-Err.ensures.err client)).0 e)

pub returns-in-Err-clause-word_fault : goal.returns-in-Err-clause-word_fault
returns-in-Err-clause-word_fault g c =
    let client : Moment = moment (g.R.Source.left c.args.input.now) (g.G.Words.to_come c.args.rand.now) (g.W.Sink.holds c.args.output.now) in
    let before : Outside = record { keys = g.F.Source.left c.args.keys.now; speaks = g.F.Source.left c.args.speaks.now; client = client } in
    let now : Outside = record { keys = g.F.Source.left c.read_core.new.keys; speaks = g.F.Source.left c.read_core.new.speaks; client = client } in
    λ e. absurd ((early_is_other c.in-Err.status before now (c.in-Err.ensures.err client)).1 e)
