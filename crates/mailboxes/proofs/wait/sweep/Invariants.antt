use Rattle.std.proofs.Common.{◌≡◌, ◌+◌, ◌-◌, ◌≤◌, ◌++◌, map, filter}
use Rattle.std.specs.List.{filter_map}
use Rattle.std.specs.Vec.{vec_capacity, vec_len}
use Rattle.std.specs.VecDeque.{deque_len, deque_capacity}
use Rattle.mailboxes.specs.Mails.{is_unsettled}
use Rattle.mailboxes.specs.Kept.{pending_of, reply_bytes}
use Rattle.mailboxes.proofs.WaitLemmas.{swept_from, replies_from}
use Rattle.mailboxes.proofs.wait.sweep.Given as goal

abbrev pub invariant-loop-at : goal.invariant-loop-at
invariant-loop-at l = record {
  waits : swept_from l.at (map pending_of l.waits.items) ≡ filter is_unsettled (map pending_of l.fn.waits.items);
  replies : map reply_bytes l.replies.items ++ replies_from l.at (map pending_of l.waits.items) ≡ map reply_bytes l.fn.replies.items ++ filter_map (λ wait. wait.reply) (map pending_of l.fn.waits.items);
  room : deque_len l.replies + vec_len l.waits ≤ deque_len l.fn.replies + vec_len l.fn.waits;
  same : deque_capacity l.replies ≡ deque_capacity l.fn.replies;
  places : vec_capacity l.waits ≡ vec_capacity l.fn.waits;
}

abbrev pub decreases-loop-at : goal.decreases-loop-at
decreases-loop-at l = vec_len l.waits - l.at
