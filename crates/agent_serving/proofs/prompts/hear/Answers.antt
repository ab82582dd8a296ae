use Rattle.agent_serving.proofs.prompts.hear.Goals as goal

pub returns-in-Ok-true-clause-told : goal.returns-in-Ok-true-clause-told
returns-in-Ok-true-clause-told g c = λ chain now first d. (rw c.in-Ok-true.field-0-test at (rw c.in-Ok-true.is at c.take_one-next.ensures.told)) chain now first (c.loop.invariant.told chain now first d)

pub returns-in-Err-clause-told : goal.returns-in-Err-clause-told
returns-in-Err-clause-told g c = λ chain now first d. (rw c.in-Err.is at c.take_one-next.ensures.told) chain now first (c.loop.invariant.told chain now first d)
