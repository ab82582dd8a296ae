use Rattle.auth_tables.proofs.MapLemmas.{put_by_query}
use Rattle.world_run.proofs.named_talks.Talks.open.Goals as goal

pub returns : goal.returns
returns c = let changed = c.in_ok-insert.ensures.updates in
    rw (← c.self.view_is, ← c.in_ok-from_slice.ensures) (put_by_query (λ key. key.items) c.in_ok-from_slice-2.field-0.items c.args.name.now _ _ _ c.in_ok-from_slice-2.ensures.items changed.1 changed.3)
