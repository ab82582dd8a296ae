use Rattle.std.proofs.Common.{inr}
use Rattle.std.proofs.lemmas.Result.{err_from_is_err_and, on_ok_weaker, IfErr-weaker}
use Rattle.factotum_program.proofs.PipeLemmas.{handed_gone, handed_left, stop_gone, stops_writing, cut_draws, cut_reads}
use Rattle.factotum_program.proofs.frames.answer_frames.Goals as goal

pub returns-in_err-write_gathered-clause-err : goal.returns-in_err-write_gathered-clause-err
returns-in_err-write_gathered-clause-err g c =
    let p = err_from_is_err_and c.from_residual.result c.from_residual.ensures.1 in
    rw (p.1, p.2) (λ origin stream turns d.
    let h = handed_left origin _ _ stream turns _ _ c.clear.ensures d in
    stops_writing c.gather_frames-answered.result _ origin _ _ _ stream _ _ (on_ok_weaker c.gather_frames-answered.result (λ f. f origin stream turns h) c.gather_frames-answered.ensures.ok)
    (IfErr-weaker c.gather_frames-answered.result _ _ (λ status f. f origin stream turns h) c.gather_frames-answered.ensures.err) c.in_err-write_gathered.ensures.which c.in_err-write_gathered.ensures.part)

pub returns-in_err-write_gathered-clause-which : goal.returns-in_err-write_gathered-clause-which
returns-in_err-write_gathered-clause-which g c =
    let p = err_from_is_err_and c.from_residual.result c.from_residual.ensures.1 in
    rw (p.1, p.2) (cut_reads _ (inr c.in_err-write_gathered.ensures.which))

pub returns-clause-ok : goal.returns-clause-ok
returns-clause-ok g c = on_ok_weaker c.gather_frames-answered.result (λ f origin stream turns d.
    handed_gone origin _ _ _ stream _ _ c.in_ok-write_gathered.ensures.ok (f origin stream turns (handed_left origin _ _ stream turns _ _ c.clear.ensures d))) c.gather_frames-answered.ensures.ok

pub returns-clause-err : goal.returns-clause-err
returns-clause-err g c = IfErr-weaker c.gather_frames-answered.result _ _ (λ status f origin stream turns d.
    stop_gone status origin _ _ _ stream c.in_ok-write_gathered.ensures.ok (f origin stream turns (handed_left origin _ _ stream turns _ _ c.clear.ensures d))) c.gather_frames-answered.ensures.err
