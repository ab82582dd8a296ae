use Rattle.std.proofs.Common.{◌∙◌}
use Rattle.auth_tables.proofs.MapLemmas.{found_by_bytes}
use Rattle.auth_tables.proofs.keys.KeyTable.place_of.Goals as goal

pub returns : goal.returns
returns c = rw (← c.self.view_is) (c.copied.ensures ∙ (c.get.ensures.value ∙ (found_by_bytes (λ key. key.items) c.args.user.now c.self.inside.places.entries ∙ c.self.invariant c.args.user.now)))
