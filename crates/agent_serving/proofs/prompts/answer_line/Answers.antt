use Rattle.std.proofs.Common.{sym, ◌∙◌, [], ◌∷◌}
use Rattle.prompters.specs.Requests.{answer_text, read_of, write_of}
use Rattle.agent_serving.proofs.PromptLemmas.{asked}
use Rattle.agent_serving.proofs.prompts.answer_line.Goals as goal

pub returns-in-Err-written-clause-told : goal.returns-in-Err-written-clause-told
returns-in-Err-written-clause-told g c = λ whole first d.
    (rw c.in-Err-written.is at c.make-seat.ensures.told) whole _ first (read_of c.in-Some.file ∷ []) (write_of c.in-Some.file (answer_text c.in-Ok.question c.answer-say.result)) c.write_request-frame.ensures.spelled
    (asked c.args.conn whole _ first c.args.seat c.args.reply.now d c.in-Some.file c.in-Ok.question c.answer-say.result _ (sym c.file_read.ensures ∙ c.in-Some.is) c.in-Ok.ensures c.answer-say.ensures.word c.answer-say.ensures.prompters)

pub returns-clause-told : goal.returns-clause-told
returns-clause-told g c = λ whole first d.
    c.read.ensures.told whole _ first []
    ((rw c.in_default-written.is at c.make-seat.ensures.told) whole _ first (read_of c.in-Some.file ∷ []) (write_of c.in-Some.file (answer_text c.in-Ok.question c.answer-say.result)) c.write_request-frame.ensures.spelled
    (asked c.args.conn whole _ first c.args.seat c.args.reply.now d c.in-Some.file c.in-Ok.question c.answer-say.result _ (sym c.file_read.ensures ∙ c.in-Some.is) c.in-Ok.ensures c.answer-say.ensures.word c.answer-say.ensures.prompters))
