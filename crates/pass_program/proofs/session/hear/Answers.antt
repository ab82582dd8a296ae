use Rattle.std.proofs.Common.{sym, subst}
use Rattle.std.proofs.lemmas.Result.{err_from_is_err_and}
use Rattle.wire_streams.specs.Streams.{Gains}
use Rattle.wire_streams.specs.Whole.{GainsFront}
use Rattle.pass_program.proofs.SessionLemmas.{lacks_message, loses_refusal, refused_more}
use Rattle.pass_program.proofs.session.hear.Goals as goal

pub returns-in-Err-clause-err : goal.returns-in-Err-clause-err
returns-in-Err-clause-err g c = λ before to_come table s.
    rw (c.end_of_lack.ensures) (lacks_message c.args.keys.now before _ _ to_come _ table _ c.args.session.now c.args.refusals c.in-Err.lack s c.requires c.in-Err.ensures.err)

pub returns-in_err-write_all-in-Err-judge-clause-err : goal.returns-in_err-write_all-in-Err-judge-clause-err
returns-in_err-write_all-in-Err-judge-clause-err g c =
    let p = err_from_is_err_and c.from_residual.result c.from_residual.ensures.1 in
    rw (p.1, p.2) (λ before to_come table s.
    loses_refusal c.args.keys.now before _ _ to_come _ table _ c.args.session.now c.args.refusals _ _ c.in-Ok.message c.in-Err-judge.why s c.requires c.in-Ok.ensures.read c.in-Ok.ensures.whole
    (sym c.in-Err-judge.ensures.same) c.note.ensures (subst (GainsFront _ _) c.refuse_for.ensures c.in_err-write_all-in-Err-judge.ensures.err))

pub returns-in_ok-write_all-in-Err-judge-clause-ok : goal.returns-in_ok-write_all-in-Err-judge-clause-ok
returns-in_ok-write_all-in-Err-judge-clause-ok g c = λ before to_come table s.
    refused_more c.args.keys.now before _ _ to_come _ table _ c.args.session.now c.args.refusals _ _ c.in-Ok.message c.in-Err-judge.why s c.requires c.in-Ok.ensures.read c.in-Ok.ensures.whole
    (sym c.in-Err-judge.ensures.same) c.note.ensures (subst (Gains _ _) c.refuse_for.ensures c.in_ok-write_all-in-Err-judge.ensures.ok)
