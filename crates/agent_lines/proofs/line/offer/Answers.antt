use Rattle.std.proofs.Common.{refl}
use Rattle.std.specs.Prelude.{Ok, Err}
use Rattle.agent_lines.specs.declared.ends.LineEnd.TheVariants.{WriteFault}
use Rattle.agent_lines.proofs.LineLemmas.{offered}
use Rattle.agent_lines.proofs.line.offer.Goals as goal

pub returns-in-Ok-clause-told : goal.returns-in-Ok-clause-told
returns-in-Ok-clause-told g c = λ conn first seat words left framer going. offered conn first framer (Ok tt) seat words left _ _ _ _ going c.in-Ok.ensures.sends tt

pub returns-in-Err-clause-told : goal.returns-in-Err-clause-told
returns-in-Err-clause-told g c = λ conn first seat words left framer going. offered conn first framer (Err WriteFault) seat words left _ _ _ _ going c.in-Err.ensures.sends (refl, c.in-Err.ensures.left)
