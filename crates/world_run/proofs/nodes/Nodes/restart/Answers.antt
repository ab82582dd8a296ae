use Rattle.std.proofs.Common.{refl, subst, sym, ◌∙◌}
use Rattle.agent_turns.specs.Agents.{StandsFor}
use Rattle.world_history.specs.Driving.{new_node}
use Rattle.auth_tables.proofs.MapLemmas.{found_by_bytes, put_by_bytes}
use Rattle.world_run.proofs.NodeLemmas.{nobody_there, restarted_so}
use Rattle.world_run.proofs.nodes.Nodes.restart.Goals as goal

pub returns-in_default : goal.returns-in_default
returns-in_default c = λ v h is. absurd (nobody_there v c.args.name.now c.args.self.now (sym (c.in_default.ensures.value ∙ found_by_bytes (λ key. key.items) c.args.name.now _)) is h)

pub returns : goal.returns
returns c =
    let writes = c.get_mut.follows.holds c.restart.new.self in
    let changed = writes.3 (rw (← c.in-Some.ensures.value) refl) in
    λ v h is stands. restarted_so v c.args.name.now c.in-Some.node.now c.restart.new.self c.args.self.now (record { alloc = c.args.self.now.alloc; table = c.get_mut.follows.lender c.restart.new.self })
    (sym (c.in-Some.ensures.value ∙ found_by_bytes (λ key. key.items) c.args.name.now _))
    (put_by_bytes (λ key. key.items) c.args.name.now _ _ _ changed.1 changed.3) (subst (λ agent. StandsFor new_node agent) (sym c.restart.ensures.agent) stands) c.restart.ensures.held h
