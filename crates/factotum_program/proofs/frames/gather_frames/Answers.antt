use Rattle.std.proofs.Common.{[], length, ◌∷◌, ◌++◌, refl, arith}
use Rattle.std.proofs.lemmas.Result.{err_from_is_err_and}
use Rattle.nine.specs.Framed.{passed}
use Rattle.factotum_program.specs.Pipe.{after_turns, turn_of}
use Rattle.factotum_program.proofs.PipeLemmas.{fewer_held, gives_whole, handed_more, handed_all, still_fed, stops_bad, stops_in_frame, stops_wordless}
use Rattle.factotum_program.proofs.frames.gather_frames.Goals as goal

pub returns-in-NotYet-clause-ok : goal.returns-in-NotYet-clause-ok
returns-in-NotYet-clause-ok g c = λ origin stream some h.
    let now = c.loop-frame.invariant.handed origin stream some h in
    handed_all origin _ _ stream now.0 c.loop-frame.framer c.loop-frame.framer c.loop-frame.agent now.1 (c.in-NotYet.ensures.answer, refl)

pub returns-in-BadSize-clause-err : goal.returns-in-BadSize-clause-err
returns-in-BadSize-clause-err g c = λ origin stream some h.
    let now = c.loop-frame.invariant.handed origin stream some h in
    stops_bad origin _ _ stream now.0 c.loop-frame.framer c.loop-frame.agent c.in-BadSize.at c.in-BadSize.size now.1 c.in-BadSize.ensures.answer.0 c.in-BadSize.ensures.answer.1

pub loop-frame-preserved : goal.loop-frame-preserved
loop-frame-preserved g c =
    let frame = c.in-Whole.frame.now in
    let shown = c.in-Whole.ensures.answer in
    let dropped = c.drop_frame.ensures.dropped (length frame) shown.0 in
    let a = gives_whole c.loop-frame.framer c.drop_frame.new.self frame shown.0 shown.1 dropped in record {
      handed = λ origin stream some h.
          let now = c.loop-frame.invariant.handed origin stream some h in
          let done = c.in_ok-answer_frame.ensures.ok origin.holds (after_turns [] now.0) now.1.stands now.1.told in (
            now.0 ++ turn_of frame c.in_ok-word.word done.heard ∷ [],
            handed_more origin _ _ _ _ stream now.0 c.loop-frame.framer c.drop_frame.new.self c.loop-frame.agent c.answer_frame.new.agent frame c.in_ok-word.word now.1 a c.in_ok-word.ensures.ok done,
          );
      fed = omega (arith, c.loop-frame.invariant.fed, still_fed c.loop-frame.framer c.drop_frame.new.self (length frame) shown.0 dropped);
      later = omega (arith, c.loop-frame.invariant.later, c.in_ok-answer_frame.ensures.counted);
      dials = omega (arith, c.loop-frame.invariant.dials, c.in_ok-answer_frame.ensures.counted_dials);
      words = omega (arith, c.loop-frame.invariant.words, c.in_ok-word.ensures.counted);
    }

pub returns-in_err-word-clause-err : goal.returns-in_err-word-clause-err
returns-in_err-word-clause-err g c =
    let frame = c.in-Whole.frame.now in
    let shown = c.in-Whole.ensures.answer in
    let a = gives_whole c.loop-frame.framer (passed c.loop-frame.framer (length frame)) frame shown.0 shown.1 refl in
    let p = err_from_is_err_and c.from_residual.result c.from_residual.ensures.1 in
    rw (p.1, p.2) (λ origin stream some h.
    let now = c.loop-frame.invariant.handed origin stream some h in
    stops_wordless _ origin _ _ _ stream now.0 c.loop-frame.framer (passed c.loop-frame.framer (length frame)) c.loop-frame.agent frame now.1 a c.in_err-word.ensures.none c.in_err-word.ensures.err)

pub returns-in_err-answer_frame-clause-err : goal.returns-in_err-answer_frame-clause-err
returns-in_err-answer_frame-clause-err g c =
    let frame = c.in-Whole.frame.now in
    let shown = c.in-Whole.ensures.answer in
    let a = gives_whole c.loop-frame.framer (passed c.loop-frame.framer (length frame)) frame shown.0 shown.1 refl in
    let p = err_from_is_err_and c.from_residual-in_err-answer_frame.result c.from_residual-in_err-answer_frame.ensures.1 in
    rw (p.1, p.2) (λ origin stream some h.
    let now = c.loop-frame.invariant.handed origin stream some h in
    stops_in_frame _ origin _ _ _ _ stream now.0 c.loop-frame.framer (passed c.loop-frame.framer (length frame)) c.loop-frame.agent frame c.in_ok-word.word now.1 a c.in_ok-word.ensures.ok c.in_err-answer_frame.ensures.cut
    (c.in_err-answer_frame.ensures.part origin.holds (after_turns [] now.0) now.1.stands now.1.told))

pub loop-frame-smaller : goal.loop-frame-smaller
loop-frame-smaller g c =
    let frame = c.in-Whole.frame.now in
    let shown = c.in-Whole.ensures.answer in
    fewer_held c.loop-frame.framer c.drop_frame.new.self (length frame) shown.0 (omega (arith, shown.2.frame_is.header)) (c.drop_frame.ensures.dropped (length frame) shown.0)
