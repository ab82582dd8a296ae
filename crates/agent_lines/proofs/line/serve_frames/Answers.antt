use Rattle.agent_lines.proofs.line.serve_frames.Goals as goal

pub returns-in-Err-clause-told : goal.returns-in-Err-clause-told
returns-in-Err-clause-told g c = λ first left going. rw c.in-Err.is at c.serve_batch-seat.ensures.told first left (g.W.Sink.holds c.args.sink.now) going

pub returns-clause-told : goal.returns-clause-told
returns-clause-told g c = λ first left going. c.offer.ensures.told c.args.conn first c.serve_batch-seat.result.0 _ left _ (rw c.in_default.is at c.serve_batch-seat.ensures.told first left (g.W.Sink.holds c.args.sink.now) going)
