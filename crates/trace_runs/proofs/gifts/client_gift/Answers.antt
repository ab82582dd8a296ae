use Rattle.std.proofs.Common.{sym, ◌∙◌}
use Rattle.std.proofs.lemmas.Result.{IfOk-weaker}
use Rattle.symbolic_runs.specs.Views.{tree}
use Rattle.trace_runs.specs.Views.{fields_of, newest_first, own_of}
use Rattle.trace_runs.proofs.RowLaws.{client_fourth}
use Rattle.trace_runs.proofs.gifts.client_gift.Goals as goal

pub returns-in-Some-answer_and_question : goal.returns-in-Some-answer_and_question
returns-in-Some-answer_and_question c = IfOk-weaker c.client_proof.result _ _
    (λ gift h. h ∙ sym (client_fourth (own_of c.args.own.now) (newest_first c.args.moves.now) (fields_of c.args.names.now) (tree c.in-Some-answer_and_question.answer.now) (tree c.in-Some-answer_and_question.question.now) c.in-Some-answer_and_question.ensures))
    c.client_proof.ensures
