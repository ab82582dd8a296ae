use Rattle.std.proofs.Common.{arith}
use Rattle.nine.specs.Messages.{frame}
use Rattle.agent_turns.proofs.events.writes.Goals as goal

pub asking-requires-clause-short : goal.asking-requires-clause-short
unfolding frame
asking-requires-clause-short c = omega (arith, c.requires)
