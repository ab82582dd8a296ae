use Rattle.std.proofs.Common.{arith}
use Rattle.agent_lines.proofs.LineLemmas.{begun, begun_short}
use Rattle.agent_lines.proofs.line.converse.Goals as goal

pub loop-init : goal.loop-init
loop-init g c = record {
  seat = c.requires.seat;
  going = begun c.args.conn _ c.in-Ok.framer c.args.kept.now c.in-Ok.ensures.value c.requires.none;
  reads = omega arith;
  words = omega arith;
  writes = omega arith;
}

pub returns-in-Err-clause-halts : goal.returns-in-Err-clause-halts
returns-in-Err-clause-halts g c = begun_short c.args.conn _ c.args.kept.now c.requires.none

pub returns-in-Err-went-clause-halts : goal.returns-in-Err-went-clause-halts
returns-in-Err-went-clause-halts g c = rw c.in-Err-went.is at c.go_on-next.ensures.told _ c.loop.invariant.going
