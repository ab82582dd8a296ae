use Rattle.std.proofs.lemmas.Result.{IfErr-weaker, IfOk-weaker, err_from_is_err_and}
use Rattle.pass_program.specs.Changing.{moment}
use Rattle.pass_program.proofs.SessionLemmas.{answer_ends, served_first}
use Rattle.pass_program.proofs.request.begin.Goals as goal

pub returns-in_err-request-clause-err : goal.returns-in_err-request-clause-err
returns-in_err-request-clause-err g c =
    let p = err_from_is_err_and c.from_residual.result c.from_residual.ensures.1 in
    rw (p.1, p.2) (λ table noted. c.in_err-request.ensures.err c.args.keys.now (moment (g.R.Source.left c.args.input.now) (g.G.Words.to_come c.args.rand.now) (g.W.Sink.holds c.args.output.now) table noted))

pub returns-clause-ok : goal.returns-clause-ok
returns-clause-ok g c = IfOk-weaker c.answer_request.result _ _ (λ session answered table noted.
    served_first c.args.keys.now _ _ _ _ _ _ table noted c.in_ok-request.request c.in_ok-words.words session c.in_ok-request.ensures.ok c.in_ok-words.ensures.two c.in_ok-words.ensures.drawn answered)
    c.answer_request.ensures.ok

pub returns-clause-err : goal.returns-clause-err
returns-clause-err g c = IfErr-weaker c.answer_request.result _ _ (λ status ended table noted.
    answer_ends c.args.keys.now _ _ _ _ _ _ table noted c.in_ok-request.request c.in_ok-words.words status c.in_ok-request.ensures.ok c.in_ok-words.ensures.two c.in_ok-words.ensures.drawn ended)
    c.answer_request.ensures.err
