use Rattle.std.proofs.Common.{◌≡◌, take, length}
use Rattle.std.specs.List.{flat_map}
use Rattle.wire_base.specs.Readers.{spelled}
use Rattle.nine.proofs.encode_requests.names_len.Given as goal

abbrev pub invariant-loop-name : goal.invariant-loop-name
invariant-loop-name l = l.total ≡ length (flat_map spelled (take l.name-index l.names))
