use Rattle.std.proofs.Common.{arith}
use Rattle.nine.specs.Streams.{IsShort}
use Rattle.agent_lines.proofs.LineLemmas.{bad_ends, front_here, front_there}
use Rattle.agent_lines.proofs.line.go_on.Goals as goal

pub returns-in-Bad-clause-told : goal.returns-in-Bad-clause-told
returns-in-Bad-clause-told g c = λ first going. bad_ends c.args.conn first _ c.args.framer.now _ c.batch-batch.result.count c.batch-batch.result.size c.in-Bad.size _ going c.batch-batch.ensures.frames (omega (arith, c.if-batch-gt0.false)) (rw c.in-Bad.is at c.batch-batch.ensures.behind) c.place-at.ensures

pub returns-in-Short-clause-told : goal.returns-in-Short-clause-told
returns-in-Short-clause-told g c = λ first going. c.wait_or_read.ensures.told first _ going (front_there c.args.framer.now c.batch-batch.result.count c.batch-batch.result.size IsShort going.limit c.batch-batch.ensures.frames (omega (arith, c.if-batch-gt0.false)) (rw c.in-Short.is at c.batch-batch.ensures.behind))

pub wait_or_read-requires-clause-short : goal.wait_or_read-requires-clause-short
wait_or_read-requires-clause-short g c = front_here c.args.framer.now c.batch-batch.result.count c.batch-batch.result.size IsShort c.batch-batch.ensures.frames (omega (arith, c.if-batch-gt0.false)) (rw c.in-Short.is at c.batch-batch.ensures.behind)
