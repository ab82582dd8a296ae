use Rattle.std.proofs.lemmas.Result.{err_from_is_err_and}
use Rattle.factotum_program.proofs.PipeLemmas.{memory_first}
use Rattle.factotum_program.proofs.pipe.answer_input.Goals as goal

pub returns-in_err-session-clause-err : goal.returns-in_err-session-clause-err
returns-in_err-session-clause-err g c =
    let p = err_from_is_err_and c.from_residual.result c.from_residual.ensures.1 in
    rw (p.1, p.2) (memory_first _ _)
