use Rattle.std.proofs.Common.{List, Option, ap, arith}
use Rattle.std.proofs.lemmas.List.{length-map}
use Rattle.file_tree.specs.declared.tree.Node.{Node}
use Rattle.file_tree.specs.Tree.{qid_of, visited}
use Rattle.file_tree.specs.Calls.{node_of}
use Rattle.file_tree.specs.Held.{state_at}
use Rattle.agent_requests.proofs.TreeLemmas.{visited_few}
use Rattle.agent_requests.proofs.connection.Connection.walk.Goals as goal

pub put_walk-requires : goal.put_walk-requires
put_walk-requires c =
    let from : Node = node_of (state_at c.args.self.now.fids c.args.fid) in
    rw (c.as_slice-3.ensures, c.in_ok-qids.ensures, c.as_slice-2.ensures, ap (λ (found : List Node × Option Node). found.0) c.in_ok-nodes.ensures.answer.1, c.as_slice.ensures, length-map (visited from c.args.wname.now) qid_of) (omega (arith, visited_few from c.args.wname.now, c.requires))
