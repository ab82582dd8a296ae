use Rattle.std.proofs.Common.{refl, sym, ◌∙◌}
use Rattle.std.proofs.lemmas.Result.{IfOk-weaker}
use Rattle.auth_tables.proofs.MapLemmas.{found_by_bytes, put_by_bytes}
use Rattle.world_run.proofs.NodeLemmas.{nobody_there, opened_so}
use Rattle.world_run.proofs.nodes.Nodes.open.Goals as goal

pub returns-in_default : goal.returns-in_default
returns-in_default c = λ v h is. absurd (nobody_there v c.args.name.now c.args.self.now (sym (c.in_default.ensures.value ∙ found_by_bytes (λ key. key.items) c.args.name.now _)) is h)

pub returns : goal.returns
returns c =
    let writes = c.get_mut.follows.holds c.open.new.self in
    let changed = writes.3 (rw (← c.in-Some.ensures.value) refl) in
    IfOk-weaker c.open.result _ _ (λ fid so v h is.
    opened_so v c.args.name.now c.args.conv.now c.in-Some.node.now c.open.new.self fid c.args.self.now (record { alloc = c.args.self.now.alloc; table = c.get_mut.follows.lender c.open.new.self })
    (sym (c.in-Some.ensures.value ∙ found_by_bytes (λ key. key.items) c.args.name.now _))
    (put_by_bytes (λ key. key.items) c.args.name.now _ _ _ changed.1 changed.3) so h)
    c.open.ensures
