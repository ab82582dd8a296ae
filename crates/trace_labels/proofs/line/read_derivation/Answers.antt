use Rattle.std.proofs.lemmas.Result.{err_from_is_err_and}
use Rattle.trace_labels.proofs.LineLaws.{derivation_missing}
use Rattle.trace_labels.proofs.line.read_derivation.Goals as goal

pub returns-in_err-place : goal.returns-in_err-place
returns-in_err-place c =
    let p = err_from_is_err_and c.from_residual.result c.from_residual.ensures.1 in
    derivation_missing c.args.words.now c.from_residual.result p.0 p.1 c.in_err-place.ensures.bad
