use Rattle.std.proofs.Common.{refl, sym, ◌∙◌}
use Rattle.auth_tables.proofs.MapLemmas.{found_by_bytes, put_by_bytes}
use Rattle.world_run.proofs.NodeLemmas.{closed_none, closed_so}
use Rattle.world_run.proofs.nodes.Nodes.close.Goals as goal

pub returns-in_default : goal.returns-in_default
returns-in_default c = λ v h. rw c.get_mut.follows.holds-at-none (closed_none v c.args.name.now c.args.conv.now c.args.self.now (sym (c.in_default.ensures.value ∙ found_by_bytes (λ key. key.items) c.args.name.now _)) h)

pub returns : goal.returns
returns c =
    let writes = c.get_mut.follows.holds c.close.new.self in
    let changed = writes.3 (rw (← c.in-Some.ensures.value) refl) in
    λ v h. closed_so v c.args.name.now c.args.conv.now c.in-Some.node.now c.close.new.self c.args.self.now (record { alloc = c.args.self.now.alloc; table = c.get_mut.follows.lender c.close.new.self })
    (sym (c.in-Some.ensures.value ∙ found_by_bytes (λ key. key.items) c.args.name.now _))
    (put_by_bytes (λ key. key.items) c.args.name.now _ _ _ changed.1 changed.3) c.close.ensures.agent c.close.ensures.held h
