use Rattle.std.proofs.Common.{arith}
use Rattle.file_tree.specs.Calls.{node_of}
use Rattle.file_tree.specs.Held.{state_at}
use Rattle.agent_requests.proofs.TreeLemmas.{dir_bytes_short}
use Rattle.agent_requests.proofs.connection.Connection.read_directory.Goals as goal

pub read_reply-requires : goal.read_reply-requires
read_reply-requires c = rw (c.as_slice.ensures, c.in_ok-end.ensures.given, c.new-records.ensures) (omega (arith, dir_bytes_short (node_of (state_at c.args.self.now.fids c.args.fid)) c.args.offset c.args.count, c.requires.small))
