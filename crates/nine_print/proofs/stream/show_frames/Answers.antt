use Rattle.std.proofs.Common.{◌∙◌}
use Rattle.std.proofs.lemmas.Result.{err_from_is_err_and}
use Rattle.nine_print.proofs.stream.show_frames.Goals as goal

pub returns-in_err-show_frame-clause-err : goal.returns-in_err-show_frame-clause-err
returns-in_err-show_frame-clause-err c =
    let p = err_from_is_err_and c.from_residual.result c.from_residual.ensures.1 in
    rw (p.1, p.2) (λ so_far stream some h.
    let now = c.loop.invariant.handed so_far stream some h in
    c.in_err-show_frame.ensures.err so_far stream now.0 now.1)

pub loop-preserved : goal.loop-preserved
loop-preserved c = record {
  handed = λ so_far stream some h.
      let now = c.loop.invariant.handed so_far stream some h in
      c.in_ok-show_frame.ensures.more so_far stream now.0 now.1;
  fed = c.in_ok-show_frame.ensures.fed ∙ c.loop.invariant.fed;
}

pub returns-clause-ok : goal.returns-clause-ok
returns-clause-ok c = λ so_far stream some h.
    let now = c.loop.invariant.handed so_far stream some h in
    c.in_ok-show_frame.ensures.all c.if-branch.false so_far stream now.0 now.1
