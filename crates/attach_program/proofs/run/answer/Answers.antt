use Rattle.std.proofs.lemmas.Result.{IfErr-weaker, err_from_is_err_and, on_ok_weaker}
use Rattle.attach_program.proofs.InputLemmas.{begun, begun_ready, memory_first}
use Rattle.attach_program.proofs.run.answer.Goals as goal

pub returns-in_err-framer-clause-err : goal.returns-in_err-framer-clause-err
returns-in_err-framer-clause-err g c =
    let p = err_from_is_err_and c.from_residual.result c.from_residual.ensures.1 in
    rw (p.1, p.2) (λ keys stands. memory_first keys _ _)

pub answer_input-requires : goal.answer_input-requires
answer_input-requires g c = record { ready = begun_ready _ c.in_ok-framer.ensures.value }

pub returns-clause-ok : goal.returns-clause-ok
returns-clause-ok g c = on_ok_weaker c.answer_input.result (λ f keys stands.
    f keys _ _ (begun keys _ _ _ _ (record { door = c.new.ensures; port = c.new-2.ensures keys (record { stands = stands; replied = tt }); is = tt }) c.in_ok-framer.ensures.value c.in_ok-framer.ensures.fresh))
    c.answer_input.ensures.ok

pub returns-clause-err : goal.returns-clause-err
returns-clause-err g c = IfErr-weaker c.answer_input.result _ _ (λ status f keys stands.
    f keys _ _ (begun keys _ _ _ _ (record { door = c.new.ensures; port = c.new-2.ensures keys (record { stands = stands; replied = tt }); is = tt }) c.in_ok-framer.ensures.value c.in_ok-framer.ensures.fresh))
    c.answer_input.ensures.err
