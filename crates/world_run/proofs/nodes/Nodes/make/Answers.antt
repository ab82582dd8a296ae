use Rattle.std.proofs.Common.{subst, sym}
use Rattle.agent_turns.specs.Agents.{StandsFor}
use Rattle.world_history.specs.Driving.{new_node}
use Rattle.auth_tables.proofs.MapLemmas.{put_by_query}
use Rattle.world_run.proofs.NodeLemmas.{made_so}
use Rattle.world_run.proofs.nodes.Nodes.make.Goals as goal

pub returns : goal.returns
returns c = let changed = c.in_ok-insert.ensures.updates in
    λ v h new stands. made_so v c.args.name.now c.new-node.result c.args.self.now (record { alloc = c.args.self.now.alloc; table = c.insert.new.self })
    (put_by_query (λ key. key.items) c.in_ok-from_slice.field-0.items c.args.name.now _ _ _ c.in_ok-from_slice.ensures.items changed.1 changed.3)
    new (subst (λ agent. StandsFor new_node agent) (sym c.new-node.ensures.agent) stands) c.new-node.ensures.held h
