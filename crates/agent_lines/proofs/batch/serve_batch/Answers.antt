use Rattle.std.proofs.Common.{◌∙◌, ap, arith, length, take}
use Rattle.agent_lines.proofs.LineLemmas.{batch_done}
use Rattle.agent_lines.proofs.batch.serve_batch.Goals as goal

pub returns-clause-told : goal.returns-clause-told
returns-clause-told g c = λ first left holds going. batch_done c.args.conn first c.args.seat c.exchange-seat.result.0 _ _ left holds c.args.framer.now _ _ c.args.batch.count c.args.batch.size _ c.exchange-seat.result.1 c.end_batch-ended.result c.draw_words-drew.result _ _ c.split_at.result.0.now c.as_slice.result.now (c.split_at.ensures.front ∙ ap (take c.args.batch.size) c.rest.ensures) c.as_slice.ensures.value going c.requires.frames c.requires.few
    c.draw_words-drew.ensures.drew c.draw_words-drew.ensures.all c.draw_words-drew.ensures.few c.draw_words-drew.ensures.which c.exchange-seat.ensures.exchanged (omega (arith, c.len.ensures.value, ap length c.as_slice.ensures.value)) c.end_batch-ended.ensures
