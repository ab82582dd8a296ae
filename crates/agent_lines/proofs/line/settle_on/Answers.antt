use Rattle.std.proofs.Common.{arith}
use Rattle.agent_lines.proofs.LineLemmas.{empty, ends_took, settle_done, settle_write}
use Rattle.agent_lines.proofs.line.settle_on.Goals as goal

pub returns-then-len-gt0-clause-told : goal.returns-then-len-gt0-clause-told
returns-then-len-gt0-clause-told g c = λ first words left unlike ends. settle_write c.args.conn first c.args.end c.write_on.result c.args.seat words left _ _ _ _ ends c.write_on.ensures.sends c.write_on.ensures.left c.write_on.ensures.fault

pub returns-then-len-gt0-2-clause-told : goal.returns-then-len-gt0-2-clause-told
returns-then-len-gt0-2-clause-told g c = λ first words left unlike ends. ends_took c.args.conn first c.args.end c.collect-seat.result.1 c.args.seat c.collect-seat.result.0 words left _ _ _ ends c.collect-seat.ensures.collected

pub returns-clause-told : goal.returns-clause-told
returns-clause-told g c = λ first words left unlike ends. settle_done c.args.conn first c.args.end c.args.seat c.collect-seat.result.0 words left _ _ _ c.collect-seat.result.1 c.settled.result ends c.collect-seat.ensures.collected
    (empty _ (omega (arith, c.if-len-gt0-2.false, c.len-2.ensures))) c.settled.ensures unlike
