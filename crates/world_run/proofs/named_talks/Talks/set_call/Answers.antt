use Rattle.std.proofs.Common.{refl, sym, ◌∙◌}
use Rattle.std.specs.Prelude.{option_map}
use Rattle.auth_tables.proofs.MapLemmas.{found_by_bytes, put_by_bytes}
use Rattle.world_run.specs.Names.{with_call}
use Rattle.world_run.proofs.NamedLemmas.{changed_by, changed_none}
use Rattle.world_run.proofs.named_talks.Talks.set_call.Goals as goal

pub returns : goal.returns
returns c =
    let writes = c.get_mut.follows.holds c.put_call.new.talk in
    let changed = writes.3 (rw (← c.in-Some.ensures.value) refl) in
    rw (← c.self.view_is) (changed_by c.args.name.now (option_map (with_call c.args.call)) _ c.put_call.new.talk _ _
    (sym (c.in-Some.ensures.value ∙ found_by_bytes (λ key. key.items) c.args.name.now _)) c.put_call.ensures
    (put_by_bytes (λ key. key.items) c.args.name.now _ _ _ changed.1 changed.3))

pub returns-in_default : goal.returns-in_default
returns-in_default c = rw (← c.self.view_is, c.get_mut.follows.holds-at-none) (changed_none c.args.name.now (option_map (with_call c.args.call)) _ (sym (c.in_default.ensures.value ∙ found_by_bytes (λ key. key.items) c.args.name.now _)))
