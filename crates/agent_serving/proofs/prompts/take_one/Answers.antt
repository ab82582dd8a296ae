use Rattle.agent_serving.proofs.PromptLemmas.{took_one}
use Rattle.agent_serving.proofs.prompts.take_one.Goals as goal

pub returns-clause-told : goal.returns-clause-told
returns-clause-told g c = λ chain now first d.
    rw c.taken_of.ensures (took_one c.args.conn chain now first c.args.seat c.submit-seat.result.0 c.submit-seat.result.1 _ _ c.requires.numbered.0 c.requires.numbered.1 c.clear.ensures c.submit-seat.ensures.submitted d)
