use Rattle.std.proofs.lemmas.Result.{err_from_is_err_and}
use Rattle.auth_server.proofs.DrawLemmas.{few_one, few_two}
use Rattle.auth_server.proofs.serve.draw_words.Goals as goal

pub returns-in_err-second-clause-err : goal.returns-in_err-second-clause-err
returns-in_err-second-clause-err g c =
    let p = err_from_is_err_and c.from_residual-in_err-second.result c.from_residual-in_err-second.ensures.1 in
    rw (p.1) (p.2, few_one _ _ _ _ _ c.in_ok-first.ensures.words c.in_err-second.ensures.words)

pub returns-in_err-third-clause-err : goal.returns-in_err-third-clause-err
returns-in_err-third-clause-err g c =
    let p = err_from_is_err_and c.from_residual-in_err-third.result c.from_residual-in_err-third.ensures.1 in
    rw (p.1) (p.2, few_two _ _ _ _ _ _ _ c.in_ok-first.ensures.words c.in_ok-second.ensures.words c.in_err-third.ensures.words)
