use Rattle.auth_tables.proofs.MapLemmas.{put_by_query}
use Rattle.world_run.proofs.NamedLemmas.{put_found}
use Rattle.world_run.proofs.SessionLemmas.{one_more}
use Rattle.world_run.proofs.clients.Clients.add.Goals as goal

pub returns-clause-added : goal.returns-clause-added
returns-clause-added c = let changed = c.in_ok-insert.ensures.updates in
    put_found c.args.name.now _ _ _ (put_by_query (λ key. key.items) c.in_ok-from_slice.field-0.items c.args.name.now _ _ _ c.in_ok-from_slice.ensures.items changed.1 changed.3)

pub returns-clause-clients : goal.returns-clause-clients
returns-clause-clients c = λ v. let changed = c.in_ok-insert.ensures.updates in
    one_more v c.args.name.now c.new-client.result c.args.self.now _ c.requires (λ requests over new. c.new-client.ensures requests over new)
    (rw (← c.self.view_is) (put_by_query (λ key. key.items) c.in_ok-from_slice.field-0.items c.args.name.now _ _ _ c.in_ok-from_slice.ensures.items changed.1 changed.3))
