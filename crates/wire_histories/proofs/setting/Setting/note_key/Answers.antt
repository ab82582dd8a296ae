use Rattle.auth_tables.proofs.MapLemmas.{put_by_query}
use Rattle.wire_histories.proofs.setting.Setting.note_key.Goals as goal

pub returns-clause-noted : goal.returns-clause-noted
returns-clause-noted c = let changed = c.in_ok-insert.ensures.updates in rw (← c.self.view_is) (put_by_query (λ key. key.items) c.in_ok-conv.conv.items c.args.conv.now _ _ _ c.in_ok-conv.ensures.items changed.1 changed.3)
