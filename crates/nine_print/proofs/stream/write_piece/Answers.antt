use Rattle.std.proofs.Common.{◌++◌}
use Rattle.std.proofs.lemmas.Result.{err_from_is_err_and, on_ok_weaker, IfErr-weaker}
use Rattle.nine_print.specs.Shown.{lines_of, frames_in}
use Rattle.nine_print.proofs.ShowLaws.{told_more, stop_cuts, write_cuts}
use Rattle.nine_print.proofs.stream.write_piece.Goals as goal

pub returns-in_err-write_lines-clause-err : goal.returns-in_err-write_lines-clause-err
returns-in_err-write_lines-clause-err g c =
    let p = err_from_is_err_and c.from_residual.result c.from_residual.ensures.1 in
    let done = c.show_piece-shown.result in
    rw (p.1, p.2, c.in_err-write_lines.ensures.err.0) (λ left origin stream t.
    let told = lines_of c.args.secrets (frames_in stream) in
    write_cuts c.args.secrets done left origin _ _ told (stream ++ c.args.piece.now) c.show_piece-shown.new.showing.framer c.show_piece-shown.new.showing.lines t.written c.in_err-write_lines.ensures.err.1
    (on_ok_weaker done (λ f. f told stream t.handed) c.show_piece-shown.ensures.ok)
    (IfErr-weaker done _ _ (λ end f. f told stream t.handed) c.show_piece-shown.ensures.err))

pub returns-clause-ok : goal.returns-clause-ok
returns-clause-ok g c = on_ok_weaker c.show_piece-shown.result (λ f origin stream t.
    let told = lines_of c.args.secrets (frames_in stream) in
    told_more c.args.secrets origin _ _ told (stream ++ c.args.piece.now) c.show_piece-shown.new.showing.framer c.show_piece-shown.new.showing.lines c.write_lines.new.lines t.written
    (f told stream t.handed) c.in_ok-write_lines.ensures.ok c.in_ok-write_lines.ensures.none) c.show_piece-shown.ensures.ok

pub returns-clause-err : goal.returns-clause-err
returns-clause-err g c = IfErr-weaker c.show_piece-shown.result _ _ (λ end f left origin stream t.
    let told = lines_of c.args.secrets (frames_in stream) in
    stop_cuts c.args.secrets end left origin _ _ told (stream ++ c.args.piece.now) c.show_piece-shown.new.showing.lines t.written (f told stream t.handed) c.in_ok-write_lines.ensures.ok) c.show_piece-shown.ensures.err

pub returns-clause-cause : goal.returns-clause-cause
returns-clause-cause g c = IfErr-weaker c.show_piece-shown.result _ _ (λ end w is. absurd (w.1 is)) c.show_piece-shown.ensures.which

pub returns-clause-which : goal.returns-clause-which
returns-clause-which g c = IfErr-weaker c.show_piece-shown.result _ _ (λ end w. w.0) c.show_piece-shown.ensures.which
