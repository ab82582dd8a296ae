use Rattle.std.proofs.Common.{◌∷◌, sym, ◌∙◌, arith}
use Rattle.std.proofs.lemmas.Result.{err_from_is_err_and}
use Rattle.agent_history.specs.declared.event.Event.TheVariants.{Take}
use Rattle.factotum_program.specs.Pipe.{take_while, text_of}
use Rattle.factotum_program.proofs.TakeLemmas.{going_more, going_ends, going_grows}
use Rattle.factotum_program.proofs.PartLemmas.{part_longer}
use Rattle.factotum_program.proofs.frames.take_all.Goals as goal

pub returns-in_err-take_next-clause-part : goal.returns-in_err-take_next-clause-part
returns-in_err-take_next-clause-part g c =
    let p = err_from_is_err_and c.from_residual.result c.from_residual.ensures.1 in
    rw (p.1, p.2) (λ origin H n stands enough told.
    let h = c.loop-agent.invariant.going origin H n stands enough told in
    let more = going_grows H n c.loop-agent.agent origin _ _ h (sym (c.has_reply.ensures.told h.history h.stands) ∙ c.loop-agent-test.true) in
    part_longer _ origin _ _ (text_of (Take 0 ∷ h.history)) (text_of (take_while n H)) more.0 more.1 (c.in_err-take_next.ensures.part origin h.history h.stands h.told))

pub loop-agent-preserved : goal.loop-agent-preserved
loop-agent-preserved g c = record {
  going = λ origin H n stands enough told.
      let h = c.loop-agent.invariant.going origin H n stands enough told in
      going_more H n c.loop-agent.agent c.take_next.new.agent origin _ _ _ _ h (sym (c.has_reply.ensures.told h.history h.stands) ∙ c.loop-agent-test.true) (c.in_ok-take_next.ensures.told origin h.history h.stands h.told) (c.in_ok-take_next.ensures.stands h.history h.stands);
  later = omega (arith, c.loop-agent.invariant.later, c.in_ok-take_next.ensures.counted);
}

pub loop-agent-smaller : goal.loop-agent-smaller
loop-agent-smaller g c = c.in_ok-take_next.ensures.fewer (sym c.has_reply.ensures.gives ∙ c.loop-agent-test.true)

pub returns-clause-ok : goal.returns-clause-ok
returns-clause-ok g c = λ origin H n stands enough told.
    let h = c.loop-agent.invariant.going origin H n stands enough told in
    going_ends H n c.loop-agent.agent origin _ _ h (sym (c.has_reply.ensures.told h.history h.stands) ∙ c.loop-agent-test.false)
