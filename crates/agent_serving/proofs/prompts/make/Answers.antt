use Rattle.std.proofs.Common.{◌++◌, ◌∷◌, []}
use Rattle.agent_serving.proofs.PromptLemmas.{made_none, made_one}
use Rattle.agent_serving.proofs.prompts.make.Goals as goal

pub returns-in-Ok-made-clause-told : goal.returns-in-Ok-made-clause-told
returns-in-Ok-made-clause-told g c = λ chain now first still m is d.
    made_one c.args.conn chain now first c.args.seat c.submit-seat.result.0 c.in-Ok.frame c.in-Ok-made.field-0 _ _ still m c.requires.seat.numbered.0 c.requires.seat.numbered.1 (rw c.in-Ok.is at is)
    (rw c.in-Ok-made.is at c.submit-seat.ensures.submitted) d

pub returns-clause-told : goal.returns-clause-told
returns-clause-told g c = λ chain now first still m is d.
    made_none c.args.conn chain now first c.args.seat c.submit-seat.result.0 c.in-Ok.frame c.in-Err.field-0 _ _ (still ++ m ∷ []) (rw c.in-Err.is at c.submit-seat.ensures.submitted) d
