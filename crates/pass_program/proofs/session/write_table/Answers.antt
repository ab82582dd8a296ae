use Rattle.std.proofs.Common.{sym, ◌∙◌}
use Rattle.std.proofs.lemmas.Result.{err_from_is_err_and}
use Rattle.pass_program.proofs.SessionLemmas.{front_either, loses_consent, loses_table, ok_left}
use Rattle.pass_program.proofs.session.write_table.Goals as goal

pub returns-in-Err-clause-err : goal.returns-in-Err-clause-err
returns-in-Err-clause-err g c = λ keys before password left to_come is h.
    let said = front_either _ _ _ c.write_all-in-Err.result c.write_all-in-Err.ensures.ok c.write_all-in-Err.ensures.err in
    loses_table keys before left to_come _ _ _ _ _ _ c.args.user.now password c.args.text.now h is said.0 said.1 (sym c.refuse_for.ensures ∙ said.2) c.in-Err.ensures.err said.3 c.note.ensures

pub returns-in_err-write_all-clause-err : goal.returns-in_err-write_all-clause-err
returns-in_err-write_all-clause-err g c =
    let p = err_from_is_err_and c.from_residual.result c.from_residual.ensures.1 in
    rw (p.1, p.2) (λ keys before password left to_come is h.
    loses_consent keys before left to_come _ _ _ _ _ (g.L.Log.noted c.args.log.now) c.args.user.now password c.args.text.now h is (ok_left c.write_all.result c.in_default.not-Err c.write_all.ensures.ok) c.in_err-write_all.ensures.err)
