-- So many messages were refused, and none was taken.
use Rattle.std.proofs.Common.{◌≤◌, ℕ, List}
use Rattle.std.specs.Prelude.{Option}
use Rattle.pass_program.specs.Changing.{Moment, moment}
use Rattle.pass_program.specs.Steps.{Served}
use Rattle.pass_program.proofs.session.hear_all.Given as goal

abbrev pub invariant-loop-refusals : goal.invariant-loop-refusals
invariant-loop-refusals g l = record {
  served : (before : Moment) (to_come : Option (List (List ℕ))) (table : Option (List ℕ))
      → Served l.keys before (moment (g.R.Source.left l.fn.input) to_come (g.W.Sink.holds l.fn.output) table (g.L.Log.noted l.fn.log)) l.session 0
      → Served l.keys before (moment (g.R.Source.left l.input) to_come (g.W.Sink.holds l.output) table (g.L.Log.noted l.log)) l.session l.refusals;
  reads : g.R.Source.faults l.fn.input ≤ g.R.Source.faults l.input;
  writes : g.W.Sink.faults l.fn.output ≤ g.W.Sink.faults l.output;
}
