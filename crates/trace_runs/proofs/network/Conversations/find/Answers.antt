use Rattle.std.proofs.Common.{◌∙◌}
use Rattle.auth_tables.proofs.MapLemmas.{found_by_bytes}
use Rattle.trace_runs.proofs.network.Conversations.find.Goals as goal

pub returns : goal.returns
returns c = c.get.ensures.value ∙ found_by_bytes (λ key. key.items) c.args.name.now _
