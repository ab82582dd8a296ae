use Rattle.agent_serving.proofs.prompts.answer_all.Goals as goal

pub returns-in-Err-clause-told : goal.returns-in-Err-clause-told
returns-in-Err-clause-told g c = λ whole first d. (rw c.in-Err.is at c.hear-next.ensures.told) whole _ first (c.loop.invariant.told whole first d)

pub returns-in-Err-answered-clause-told : goal.returns-in-Err-answered-clause-told
returns-in-Err-answered-clause-told g c = λ whole first d.
    (rw c.in-Err-answered.is at (rw c.as_slice.ensures at c.answer_line-next.ensures.told)) whole first ((rw c.in_default.is at c.hear-next.ensures.told) whole _ first (c.loop.invariant.told whole first d))

pub loop-preserved : goal.loop-preserved
loop-preserved g c = record {
  seat = c.answer_line-next.ensures.seat;
  told = λ whole first d.
      (rw c.in_default-answered.is at (rw c.as_slice.ensures at c.answer_line-next.ensures.told)) whole first ((rw c.in_default.is at c.hear-next.ensures.told) whole _ first (c.loop.invariant.told whole first d));
}
