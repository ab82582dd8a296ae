use Rattle.std.proofs.Common.{◌≡◌, ◌-◌}
use Rattle.wire_base.specs.Readers.{times}
use Rattle.nine.specs.Decoding.{qid_at}
use Rattle.wire_base.proofs.LoopLaws.{with_front}
use Rattle.nine.proofs.decode_replies.qids_at.Given as goal

abbrev pub invariant-loop : goal.invariant-loop
invariant-loop l = with_front l.qids (times qid_at (l.count - l.counter) l.bytes l.next) ≡ times qid_at l.count l.bytes l.at
