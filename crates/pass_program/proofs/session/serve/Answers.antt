use Rattle.std.proofs.Common.{◌≡◌, ◌∙◌}
use Rattle.std.proofs.lemmas.Result.{IfErr-weaker, err_from_is_err_and, on_ok_weaker}
use Rattle.auth_tables.specs.Printing.{table_text, with_password}
use Rattle.pass_program.specs.Changing.{Moment, moment}
use Rattle.pass_program.proofs.SessionLemmas.{lacks_memory}
use Rattle.pass_program.proofs.session.serve.Goals as goal

pub returns-in_err-text-clause-err : goal.returns-in_err-text-clause-err
returns-in_err-text-clause-err g c =
    let p = err_from_is_err_and c.from_residual-in_err-text.result c.from_residual-in_err-text.ensures.1 in
    let before : Moment = moment (g.R.Source.left c.args.input.now) (g.G.Words.to_come c.args.rand.now) (g.W.Sink.holds c.args.output.now) (g.T.Sink.holds c.args.table.now) (g.L.Log.noted c.args.log.now) in
    rw (p.1, p.2) (lacks_memory c.args.keys.now before _ c.in_ok-session.session.user c.in_ok-password.password
    (c.in_ok-password.ensures.ok before (g.G.Words.to_come c.begin.new.rand) (g.T.Sink.holds c.args.table.now) (c.in_ok-session.ensures.ok (g.T.Sink.holds c.args.table.now) (g.L.Log.noted c.args.log.now))))

pub returns-clause-ok : goal.returns-clause-ok
returns-clause-ok g c =
    let before : Moment = moment (g.R.Source.left c.args.input.now) (g.G.Words.to_come c.args.rand.now) (g.W.Sink.holds c.args.output.now) (g.T.Sink.holds c.args.table.now) (g.L.Log.noted c.args.log.now) in
    let heard = c.in_ok-password.ensures.ok before (g.G.Words.to_come c.begin.new.rand) (g.T.Sink.holds c.args.table.now) (c.in_ok-session.ensures.ok (g.T.Sink.holds c.args.table.now) (g.L.Log.noted c.args.log.now)) in
    let is : c.as_slice.result.now ≡ table_text (with_password c.in_ok-session.session.user c.in_ok-password.password c.args.keys.now) = c.as_slice.ensures ∙ c.in_ok-text.ensures in
    on_ok_weaker c.write_table.result (λ h. h c.args.keys.now before c.in_ok-password.password _ _ is heard) c.write_table.ensures.ok

pub returns-clause-err : goal.returns-clause-err
returns-clause-err g c =
    let before : Moment = moment (g.R.Source.left c.args.input.now) (g.G.Words.to_come c.args.rand.now) (g.W.Sink.holds c.args.output.now) (g.T.Sink.holds c.args.table.now) (g.L.Log.noted c.args.log.now) in
    let heard = c.in_ok-password.ensures.ok before (g.G.Words.to_come c.begin.new.rand) (g.T.Sink.holds c.args.table.now) (c.in_ok-session.ensures.ok (g.T.Sink.holds c.args.table.now) (g.L.Log.noted c.args.log.now)) in
    let is : c.as_slice.result.now ≡ table_text (with_password c.in_ok-session.session.user c.in_ok-password.password c.args.keys.now) = c.as_slice.ensures ∙ c.in_ok-text.ensures in
    IfErr-weaker c.write_table.result _ _ (λ status h. h c.args.keys.now before c.in_ok-password.password _ _ is heard) c.write_table.ensures.err
