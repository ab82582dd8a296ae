use Rattle.std.proofs.Common.{refl, sym, ◌∙◌}
use Rattle.auth_tables.proofs.MapLemmas.{found_by_bytes, put_by_bytes}
use Rattle.world_run.proofs.NodeLemmas.{nobody_there, turned_so}
use Rattle.world_run.proofs.nodes.Nodes.turn.Goals as goal

pub returns-in_default : goal.returns-in_default
returns-in_default c = λ v h is. nobody_there v c.args.name.now c.args.self.now (sym (c.in_default.ensures.value ∙ found_by_bytes (λ key. key.items) c.args.name.now _)) is h

pub returns : goal.returns
returns c =
    let writes = c.get_mut.follows.holds c.turn.new.self in
    let changed = writes.3 (rw (← c.in-Some.ensures.value) refl) in
    λ v h is. turned_so v c.args.name.now c.args.number _ _ c.in-Some.node.now c.turn.new.self c.args.self.now _
    (sym (c.in-Some.ensures.value ∙ found_by_bytes (λ key. key.items) c.args.name.now _))
    (put_by_bytes (λ key. key.items) c.args.name.now _ _ _ changed.1 changed.3) c.turn.ensures.held c.in_ok-turn.ensures.turned h
