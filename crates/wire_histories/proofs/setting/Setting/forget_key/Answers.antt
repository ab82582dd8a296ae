use Rattle.auth_tables.proofs.MapLemmas.{put_by_bytes}
use Rattle.wire_histories.proofs.setting.Setting.forget_key.Goals as goal

pub returns-clause-forgot : goal.returns-clause-forgot
returns-clause-forgot c = let changed = c.remove.ensures.updates in rw (← c.self.view_is) (put_by_bytes (λ key. key.items) c.args.conv.now _ _ _ changed.1 changed.3)
