use Rattle.std.proofs.Common.{◌≡◌, map, take}
use Rattle.file_tree.specs.Tree.{qid_of}
use Rattle.agent_requests.proofs.fid_requests.qids_of.Given as goal

abbrev pub invariant-loop-node : goal.invariant-loop-node
invariant-loop-node l = l.qids ≡ map qid_of (take l.node-index l.nodes)
