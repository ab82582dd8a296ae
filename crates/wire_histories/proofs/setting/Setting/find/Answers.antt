use Rattle.std.proofs.Common.{◌∙◌}
use Rattle.auth_tables.proofs.MapLemmas.{found_by_bytes}
use Rattle.wire_histories.proofs.setting.Setting.find.Goals as goal

pub returns : goal.returns
returns c = rw (← c.self.view_is) (c.get.ensures.value ∙ found_by_bytes (λ key. key.items) c.args.conv.now c.self.inside.keys.entries)
