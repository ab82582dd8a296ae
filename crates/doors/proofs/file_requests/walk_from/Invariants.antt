use Rattle.std.proofs.Common.{◌≡◌, ◌≤◌, ◌++◌, drop, length, map}
use Rattle.doors.specs.Tree.{lead_to, qid_of, visited}
use Rattle.doors.proofs.file_requests.walk_from.Given as goal

abbrev pub invariant-loop-name : goal.invariant-loop-name
invariant-loop-name l =
    (l.qids ++ map qid_of (visited l.at (drop l.name-index l.names)) ≡ map qid_of (visited l.fn.file l.names))
    × (lead_to l.at (drop l.name-index l.names) ≡ lead_to l.fn.file l.names)
    × (length l.qids ≤ l.name-index)
