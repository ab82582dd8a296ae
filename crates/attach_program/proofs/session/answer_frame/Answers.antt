use Rattle.std.proofs.Common.{List, ℕ, subst}
use Rattle.std.proofs.lemmas.Result.{IfErr-weaker, err_from_is_err_and, on_ok_weaker}
use Rattle.wire_streams.specs.Spawning.{Gains as Notes}
use Rattle.wire_streams.specs.Streams.{Gains}
use Rattle.wire_streams.specs.Whole.{GainsFront}
use Rattle.attach_program.specs.Notes.{note_of}
use Rattle.attach_program.proofs.TurnLemmas.{ends_memory, ends_wordless, ends_writing, served_more}
use Rattle.attach_program.proofs.session.answer_frame.Goals as goal

pub returns-in_err-word-clause-err : goal.returns-in_err-word-clause-err
returns-in_err-word-clause-err g c =
    let p = err_from_is_err_and c.from_residual.result c.from_residual.ensures.1 in
    rw (p.1, p.2) (λ keys origin run s. ends_wordless _ keys origin _ _ run _ _ c.in_err-word.ensures.err s c.in_err-word.ensures.none)

pub returns-in_err-reply_to-clause-err : goal.returns-in_err-reply_to-clause-err
returns-in_err-reply_to-clause-err g c =
    let p = err_from_is_err_and c.from_residual-in_err-reply_to.result c.from_residual-in_err-reply_to.ensures.1 in
    rw (p.1, p.2) (λ keys origin run s. ends_memory _ keys origin _ _ run _ c.in_ok-word.word _ c.in_err-reply_to.ensures.err s c.in_ok-word.ensures.ok)

pub returns-clause-ok : goal.returns-clause-ok
returns-clause-ok g c =
    let noted = subst (λ (r : List ℕ). Notes (g.L.Log.noted c.args.log.now) (g.L.Log.noted c.note.new.log) (note_of c.args.frame.now r)) c.as_slice.ensures c.note.ensures in
    on_ok_weaker c.write.result (λ wrote keys origin run s.
    served_more keys origin _ run _ _ _ c.args.frame.now c.in_ok-word.word _ _ s c.in_ok-word.ensures.ok (c.in_ok-reply_to.ensures.ok keys run s.stands) noted
    (subst (Gains (g.W.Sink.holds c.args.output.now) (g.W.Sink.holds c.write.new.output)) c.as_slice-2.ensures wrote))
    c.write.ensures.ok

pub returns-clause-err : goal.returns-clause-err
returns-clause-err g c =
    let noted = subst (λ (r : List ℕ). Notes (g.L.Log.noted c.args.log.now) (g.L.Log.noted c.note.new.log) (note_of c.args.frame.now r)) c.as_slice.ensures c.note.ensures in
    IfErr-weaker c.write.result _ _ (λ status e keys origin run s.
    ends_writing status keys origin _ run _ _ _ c.args.frame.now c.in_ok-word.word _ _ e.0 s c.in_ok-word.ensures.ok (c.in_ok-reply_to.ensures.ok keys run s.stands) noted
    (subst (GainsFront (g.W.Sink.holds c.args.output.now) (g.W.Sink.holds c.write.new.output)) c.as_slice-2.ensures e.1))
    c.write.ensures.err
