use Rattle.std.proofs.Common.{arith}
use Rattle.agent_hub.proofs.AskLemmas.{asked_nothing}
use Rattle.agent_hub.proofs.questions.serve_asks.Goals as goal

pub loop-init : goal.loop-init
loop-init g c = record { seat = c.requires; told = asked_nothing c.args.seat (g.D.Dialer.told c.args.dialer.now) (g.D.Dialer.faults c.args.dialer.now); counted = omega arith }

pub returns-in-Err-clause-asked : goal.returns-in-Err-clause-asked
returns-in-Err-clause-asked g c = rw c.in-Err.is at c.ask_next-next.ensures.told c.args.seat _ _ c.loop.invariant.told
