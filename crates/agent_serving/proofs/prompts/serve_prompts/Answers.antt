use Rattle.std.proofs.Common.{arith, rules}
use Rattle.std.proofs.lemmas.List.{length-map}
use Rattle.agent_serving.proofs.PromptLemmas.{hung, still_open}
use Rattle.agent_serving.proofs.prompts.serve_prompts.Goals as goal

pub returns-clause-prompts : goal.returns-clause-prompts
returns-clause-prompts g c =
    hung c.args.conn _ _ c.args.seat c.converse-seat.result.0 c.submit-seat.result.0 _ _ c.converse-seat.ensures.seat.numbered.0 c.converse-seat.ensures.seat.numbered.1
    (omega (arith, length-map c.args.chain.now.list.items (λ b. (g.dyn-1.0.entry b.vtable).1.manner b.value), c.len.ensures, c.if-len-lt2.false)) c.converse-seat.result.1 c.submit-seat.result.1 (search rules) c.submit-seat.ensures.submitted c.converse-seat.ensures.told
