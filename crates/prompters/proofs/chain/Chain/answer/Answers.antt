use Rattle.std.proofs.Common.{arith, rules}
use Rattle.std.proofs.lemmas.List.{length-map}
use Rattle.prompters.proofs.ChainLemmas.{begun, ends, fewer, goes_by, nobody}
use Rattle.prompters.proofs.chain.Chain.answer.Goals as goal

pub loop-at-init : goal.loop-at-init
loop-at-init g c = begun _ _

pub returns-then-ne-clause-word : goal.returns-then-ne-clause-word
returns-then-ne-clause-word g c = (ends _ _ _ _ _ _ _ c.loop-at.invariant c.ask_at-say.ensures (search rules)).0

pub returns-then-ne-clause-prompters : goal.returns-then-ne-clause-prompters
returns-then-ne-clause-prompters g c = (ends _ _ _ _ _ _ _ c.loop-at.invariant c.ask_at-say.ensures (search rules)).1

pub loop-at-smaller : goal.loop-at-smaller
loop-at-smaller g c = fewer _ _ _ _ _ _ c.ask_at-say.ensures

pub loop-at-preserved : goal.loop-at-preserved
loop-at-preserved g c = goes_by _ _ _ _ _ _ _ c.loop-at.invariant c.ask_at-say.ensures (search rules)

pub returns-clause-word : goal.returns-clause-word
returns-clause-word g c = (nobody _ _ _ _ c.loop-at.invariant (omega (arith, length-map c.loop-at.self.list.items (λ b. (g.dyn-1.0.entry b.vtable).1.manner b.value), c.len.ensures, c.loop-at-test.false))).0

pub returns-clause-prompters : goal.returns-clause-prompters
returns-clause-prompters g c = (nobody _ _ _ _ c.loop-at.invariant (omega (arith, length-map c.loop-at.self.list.items (λ b. (g.dyn-1.0.entry b.vtable).1.manner b.value), c.len.ensures, c.loop-at-test.false))).1
