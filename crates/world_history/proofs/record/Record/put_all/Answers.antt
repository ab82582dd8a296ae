use Rattle.std.proofs.Common.{◌≡◌, ◌∷◌, rules}
use Rattle.std.specs.Vec.Iter.{into_iter_items}
use Rattle.world_history.proofs.RecordLemmas.{recorded_cut}
use Rattle.world_history.proofs.record.Record.put_all.Goals as goal

pub returns-in-Err-clause-err : goal.returns-in-Err-clause-err
returns-in-Err-clause-err g c =
    let more : into_iter_items c.loop-step.left ≡ c.in-Some.step ∷ into_iter_items c.next.new.self = search rules in
    recorded_cut c.args.steps.items (into_iter_items c.loop-step.left) (into_iter_items c.next.new.self) c.args.self.now c.loop-step.self c.put.new.self c.in-Some.step c.in-Err.cut
    (g.W.Sink.holds c.args.sink.now) (g.W.Sink.holds c.loop-step.sink) (g.W.Sink.holds c.put.new.sink) c.loop-step.invariant.recorded more c.in-Err.ensures.err
