use Rattle.std.proofs.Common.{◌∙◌}
use Rattle.auth_tables.proofs.MapLemmas.{found_by_bytes}
use Rattle.world_run.proofs.clients.Clients.look.Goals as goal

pub returns : goal.returns
returns c = rw (← c.self.view_is) (c.get.ensures.value ∙ found_by_bytes (λ key. key.items) c.args.name.now _)
