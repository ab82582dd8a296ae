use Rattle.std.proofs.lemmas.Result.{IfErr-weaker, on_ok_weaker}
use Rattle.attach_program.proofs.input.answer_input.Goals as goal

pub returns-clause-ok : goal.returns-clause-ok
returns-clause-ok g c = on_ok_weaker c.end.result (λ f keys first origin q. f keys first _ origin _ _ (c.in_ok-answer_pieces.ensures.ok keys first origin q) c.in_ok-answer_pieces.ensures.at_end) c.end.ensures.ok

pub returns-clause-err : goal.returns-clause-err
returns-clause-err g c = IfErr-weaker c.end.result _ _ (λ status f keys first origin q. f keys first _ origin _ _ (c.in_ok-answer_pieces.ensures.ok keys first origin q) c.in_ok-answer_pieces.ensures.at_end) c.end.ensures.err
