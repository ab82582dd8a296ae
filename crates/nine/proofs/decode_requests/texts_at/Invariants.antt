use Rattle.std.proofs.Common.{◌≡◌, ◌-◌}
use Rattle.wire_base.specs.Readers.{string, times}
use Rattle.wire_base.proofs.LoopLaws.{with_front}
use Rattle.nine.proofs.decode_requests.texts_at.Given as goal

abbrev pub invariant-loop : goal.invariant-loop
invariant-loop l = with_front l.texts (times string (l.count - l.counter) l.bytes l.next) ≡ times string l.count l.bytes l.at
