use Rattle.std.proofs.Common.{length, ◌∷◌, refl, arith}
use Rattle.std.proofs.lemmas.Result.{err_from_is_err_and}
use Rattle.nine.specs.Framed.{passed}
use Rattle.attach_program.proofs.InputLemmas.{fewer_held, gives_whole, handed_more, handed_all, still_fed, stops_bad, stops_in_frame}
use Rattle.attach_program.proofs.input.answer_frames.Goals as goal

pub returns-in-NotYet-clause-ok : goal.returns-in-NotYet-clause-ok
returns-in-NotYet-clause-ok g c = λ keys origin stream some h.
    let now = c.loop-frame.invariant.handed keys origin stream some h in
    handed_all keys origin _ stream now.0 c.loop-frame.framer c.loop-frame.framer c.loop-frame.session now.1 (c.in-NotYet.ensures.answer, refl)

pub returns-in-BadSize-clause-err : goal.returns-in-BadSize-clause-err
returns-in-BadSize-clause-err g c = λ keys origin stream some h.
    let now = c.loop-frame.invariant.handed keys origin stream some h in
    stops_bad keys origin _ stream now.0 c.loop-frame.framer c.loop-frame.session c.in-BadSize.at c.in-BadSize.size now.1 c.in-BadSize.ensures.answer.0 c.in-BadSize.ensures.answer.1

pub loop-frame-preserved : goal.loop-frame-preserved
loop-frame-preserved g c =
    let frame = c.in-Whole.frame.now in
    let shown = c.in-Whole.ensures.answer in
    let dropped = c.drop_frame.ensures.dropped (length frame) shown.0 in
    let a = gives_whole c.loop-frame.framer c.drop_frame.new.self frame shown.0 shown.1 dropped in record {
      handed = λ keys origin stream some h.
          let now = c.loop-frame.invariant.handed keys origin stream some h in
          let more = c.in_ok-answer_frame.ensures.ok keys origin now.0 now.1.served in (
            more.turn ∷ now.0,
            handed_more keys origin _ _ stream now.0 c.loop-frame.framer c.drop_frame.new.self c.loop-frame.session c.answer_frame.new.session frame now.1 a more,
          );
      fed = omega (arith, c.loop-frame.invariant.fed, still_fed c.loop-frame.framer c.drop_frame.new.self (length frame) shown.0 dropped);
      later = omega (arith, c.loop-frame.invariant.later, c.in_ok-answer_frame.ensures.counted_writes);
      words = omega (arith, c.loop-frame.invariant.words, c.in_ok-answer_frame.ensures.counted_words);
    }

pub returns-in_err-answer_frame-clause-err : goal.returns-in_err-answer_frame-clause-err
returns-in_err-answer_frame-clause-err g c =
    let frame = c.in-Whole.frame.now in
    let shown = c.in-Whole.ensures.answer in
    let a = gives_whole c.loop-frame.framer (passed c.loop-frame.framer (length frame)) frame shown.0 shown.1 refl in
    let p = err_from_is_err_and c.from_residual.result c.from_residual.ensures.1 in
    rw (p.1, p.2) (λ keys origin stream some h.
    let now = c.loop-frame.invariant.handed keys origin stream some h in
    stops_in_frame _ keys origin _ _ stream now.0 c.loop-frame.framer (passed c.loop-frame.framer (length frame)) c.loop-frame.session frame now.1 a
    (c.in_err-answer_frame.ensures.err keys origin now.0 now.1.served))

pub loop-frame-smaller : goal.loop-frame-smaller
loop-frame-smaller g c =
    let frame = c.in-Whole.frame.now in
    let shown = c.in-Whole.ensures.answer in
    fewer_held c.loop-frame.framer c.drop_frame.new.self (length frame) shown.0 (omega (arith, shown.2.frame_is.header)) (c.drop_frame.ensures.dropped (length frame) shown.0)
