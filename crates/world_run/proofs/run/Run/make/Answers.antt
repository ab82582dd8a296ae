use Rattle.std.proofs.Common.{[], sym}
use Rattle.world_history.specs.Acts.{Made}
use Rattle.world_scripts.specs.Lines as l
use Rattle.world_run.proofs.LineLemmas.{node_made, node_twice, too_many}
use Rattle.world_run.specs.Standing.{nodes_by}
use Rattle.world_run.proofs.RunLemmas.{done_as, line_judged}
use Rattle.world_run.proofs.NameLemmas.{few_known, made_done, many_known}
use Rattle.world_run.proofs.run.Run.make.Goals as goal

pub returns-then-has-clause-carried : goal.returns-then-has-clause-carried
returns-then-has-clause-carried c = λ left before acts is h. node_twice acts c.args.node.now (sym (c.if-has.ensures (nodes_by acts) h.nodes))

pub returns-then-self-ge-MOST_NODES-clause-carried : goal.returns-then-self-ge-MOST_NODES-clause-carried
returns-then-self-ge-MOST_NODES-clause-carried c = λ left before acts is h.
    too_many acts c.args.node.now (sym (c.if-has.ensures (nodes_by acts) h.nodes)) (many_known _ _ h.made c.if-self-ge-MOST_NODES.true)

pub returns-clause-carried : goal.returns-clause-carried
returns-clause-carried c = λ left before acts is h.
    let new = sym (c.if-has.ensures (nodes_by acts) h.nodes) in
    rw c.new.ensures.items (done_as left acts _ _ [] _ is (made_done before left acts c.args.node.now c.args.self.now c.make.new.self
    (line_judged acts _ (l.Node c.args.node.now) (Made c.args.node.now) is (node_made acts c.args.node.now new (few_known _ _ h.made c.if-self-ge-MOST_NODES.false))) h
    (c.in_ok-make.ensures (nodes_by acts) h.nodes new c.in_ok-new_node.ensures)))
