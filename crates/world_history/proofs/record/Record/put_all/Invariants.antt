use Rattle.std.proofs.Common.{◌≡◌}
use Rattle.std.specs.Vec.Iter.{into_iter_items, into_iter_len}
use Rattle.world_history.proofs.RecordLemmas.{Recorded}
use Rattle.world_history.proofs.record.Record.put_all.Given as goal

-- the first steps were recorded, their lines written, and no write failed
abbrev pub invariant-loop-step : goal.invariant-loop-step
invariant-loop-step g l = record {
  recorded : Recorded l.fn.steps.items (into_iter_items l.left) l.fn.self l.self (g.W.Sink.holds l.fn.sink) (g.W.Sink.holds l.sink);
  steady : g.W.Sink.faults l.sink ≡ g.W.Sink.faults l.fn.sink;
}

abbrev pub decreases-loop-step : goal.decreases-loop-step
decreases-loop-step g l = into_iter_len l.left
