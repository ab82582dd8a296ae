use Rattle.std.proofs.Common.{◌++◌}
use Rattle.std.proofs.lemmas.Result.{err_from_is_err_and, on_ok_weaker}
use Rattle.nine_print.specs.Shown.{frames_in}
use Rattle.nine_print.proofs.ShowLaws.{unfed, fed}
use Rattle.nine_print.proofs.stream.show_piece.Goals as goal

pub returns-in_err-feed-clause-err : goal.returns-in_err-feed-clause-err
returns-in_err-feed-clause-err c =
    let p = err_from_is_err_and c.from_residual.result c.from_residual.ensures.1 in
    rw (p.1, p.2) (λ so_far stream h. unfed c.args.secrets so_far stream c.args.piece.now _ _ h)

pub returns-clause-ok : goal.returns-clause-ok
returns-clause-ok c = on_ok_weaker c.show_frames.result (λ f so_far stream h.
    f so_far (stream ++ c.args.piece.now) (frames_in stream)
    (fed c.args.secrets so_far stream c.args.piece.now c.args.showing.now.framer c.feed.new.self _ h c.in_ok-feed.ensures.ok (c.in_ok-feed.ensures.stream stream (frames_in stream) h.all.cut))) c.show_frames.ensures.ok
