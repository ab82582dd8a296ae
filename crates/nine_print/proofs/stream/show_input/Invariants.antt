use Rattle.std.proofs.Common.{◌≡◌, ◌-◌, ◌≤◌, length}
use Rattle.nine_print.specs.Shown.{most_input}
use Rattle.nine_print.specs.Showing.{Shown, taken_by}
use Rattle.nine_print.proofs.stream.show_input.Given as goal

abbrev pub invariant-loop-showing : goal.invariant-loop-showing
invariant-loop-showing g l = record {
  shown : Shown l.secrets (g.R.Source.left l.fn.input) (g.R.Source.left l.input) (g.W.Sink.holds l.fn.output) (g.W.Sink.holds l.output) l.showing;
  few : taken_by l.showing ≤ most_input;
  room : length l.piece ≡ 8192;
  reads : g.R.Source.faults l.fn.input ≤ g.R.Source.faults l.input;
  writes : g.W.Sink.faults l.fn.output ≤ g.W.Sink.faults l.output;
}

abbrev pub decreases-loop-showing : goal.decreases-loop-showing
decreases-loop-showing g l = most_input - taken_by l.showing
