use Rattle.agent_lines.proofs.line.settle.Goals as goal

pub returns-in-Err-clause-told : goal.returns-in-Err-clause-told
returns-in-Err-clause-told g c = λ first words left h. rw c.in-Err.is at c.settle_on-next.ensures.told first words left c.loop.invariant.no_fault (c.loop.invariant.ends first words left h)
