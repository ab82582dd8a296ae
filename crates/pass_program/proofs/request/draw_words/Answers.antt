use Rattle.std.proofs.Common.{arith, [], ◌∷◌}
use Rattle.std.proofs.lemmas.Result.{err_from_is_err_and}
use Rattle.auth_server.proofs.DrawLemmas.{drawn_more, drawn_none, drawn_one}
use Rattle.pass_program.specs.Steps.{DrawsNotBoth}
use Rattle.pass_program.proofs.request.draw_words.Goals as goal

pub returns-in_err-second-clause-err : goal.returns-in_err-second-clause-err
returns-in_err-second-clause-err g c =
    let p = err_from_is_err_and c.from_residual-in_err-second.result c.from_residual-in_err-second.ensures.1 in
    let few : DrawsNotBoth (g.G.Words.to_come c.args.words.now) (g.G.Words.to_come c.word8-2.new.self) = record {
      drawn = c.in_ok-first.first ∷ [];
      drew = drawn_more _ _ _ (c.in_ok-first.first ∷ []) [] (drawn_one _ _ _ c.in_ok-first.ensures.words) (drawn_none _ _ _ c.in_err-second.ensures.words);
      few = omega arith;
    } in
    rw (p.1) few
