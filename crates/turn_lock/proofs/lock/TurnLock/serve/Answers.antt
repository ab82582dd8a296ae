use Rattle.std.proofs.Common.{rules, ◌∷◌, Some, sym, ap, ◌∙◌}
use Rattle.atomic_table.specs.Table.{rest}
use Rattle.turn_lock.proofs.lock.TurnLock.serve.Goals as goal

pub exchange-requires : goal.exchange-requires
exchange-requires g c = let h = c.requires.value in (search rules, (Some h.state, h.slot ∙ (λ i. (0, Some h.state) ∷ sym (ap rest h.slot) i)))
