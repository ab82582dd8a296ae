use Rattle.std.proofs.Common.{◌-◌, length, map}
use Rattle.prompters.proofs.ChainLemmas.{Going}
use Rattle.prompters.proofs.chain.Chain.answer.Given as goal

-- those before the place were asked and passed
abbrev pub invariant-loop-at : goal.invariant-loop-at
invariant-loop-at g l = Going l.q l.at (map (λ b. (g.dyn-1.0.entry b.vtable).1.manner b.value) l.fn.self.list.items) (map (λ b. (g.dyn-1.0.entry b.vtable).1.manner b.value) l.self.list.items)

abbrev pub decreases-loop-at : goal.decreases-loop-at
decreases-loop-at g l = length (map (λ b. (g.dyn-1.0.entry b.vtable).1.manner b.value) l.self.list.items) - l.at
