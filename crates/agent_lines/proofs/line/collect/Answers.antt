use Rattle.agent_lines.proofs.LineLemmas.{short_there, stopped, took}
use Rattle.agent_lines.proofs.line.collect.Goals as goal

pub returns-then-eq-clause-told : goal.returns-then-eq-clause-told
returns-then-eq-clause-told g c = λ first words left framer going. stopped c.args.conn first framer _ _ (took c.args.conn first framer c.collect-seat.result.1 c.args.seat c.collect-seat.result.0 words left _ _ _ going c.collect-seat.ensures.collected)

pub returns-then-len-eq0-clause-told : goal.returns-then-len-eq0-clause-told
returns-then-len-eq0-clause-told g c = λ first words left framer going. short_there c.args.conn first framer _ _ (took c.args.conn first framer c.collect-seat.result.1 c.args.seat c.collect-seat.result.0 words left _ _ _ going c.collect-seat.ensures.collected)

pub returns-clause-told : goal.returns-clause-told
returns-clause-told g c = λ first words left framer going. c.offer.ensures.told c.args.conn first c.collect-seat.result.0 words left framer (took c.args.conn first framer c.collect-seat.result.1 c.args.seat c.collect-seat.result.0 words left _ _ _ going c.collect-seat.ensures.collected)
