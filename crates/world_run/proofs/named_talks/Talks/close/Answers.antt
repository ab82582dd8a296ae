use Rattle.std.proofs.Common.{None, refl, sym, ◌∙◌}
use Rattle.auth_tables.proofs.MapLemmas.{found_by_bytes, put_by_bytes}
use Rattle.world_run.proofs.NamedLemmas.{changed_by, changed_none}
use Rattle.world_run.proofs.named_talks.Talks.close.Goals as goal

pub returns : goal.returns
returns c =
    let writes = c.get_mut.follows.holds c.shut.new.talk in
    let changed = writes.3 (rw (← c.in-Some.ensures.value) refl) in
    rw (← c.self.view_is) (changed_by c.args.name.now (λ _. None) _ c.shut.new.talk _ _
    (sym (c.in-Some.ensures.value ∙ found_by_bytes (λ key. key.items) c.args.name.now _)) c.shut.ensures
    (put_by_bytes (λ key. key.items) c.args.name.now _ _ _ changed.1 changed.3))

pub returns-in_default : goal.returns-in_default
returns-in_default c = rw (← c.self.view_is, c.get_mut.follows.holds-at-none) (changed_none c.args.name.now (λ _. None) _ (sym (c.in_default.ensures.value ∙ found_by_bytes (λ key. key.items) c.args.name.now _)))
