use Rattle.agent_lines.proofs.LineLemmas.{all_hung, caused_both}
use Rattle.agent_lines.proofs.line.serve_line.Goals as goal

pub returns-clause-served : goal.returns-clause-served
returns-clause-served g c = all_hung c.args.conn c.settle-seat.result.1 _ c.settle-seat.result.0 _ _ _ _ _ _ _ _ _ c.settle-seat.ensures.seat.numbered.1 (c.settle-seat.ensures.told _ _ _ c.converse-seat.ensures.halts) c.submit-seat.ensures.submitted

pub returns-clause-caused : goal.returns-clause-caused
returns-clause-caused g c = caused_both c.converse-seat.result.1 c.settle-seat.result.1 _ _ _ _ _ c.converse-seat.ensures.caused c.converse-seat.ensures.counted_writes c.settle-seat.ensures.counted c.settle-seat.ensures.caused
