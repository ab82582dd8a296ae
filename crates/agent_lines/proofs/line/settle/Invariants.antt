use Rattle.std.proofs.Common.{◌≡◌, ◌≤◌, [], ℕ, List, Option}
use Rattle.agent_hub.specs.Submits.{IsSeatOf}
use Rattle.agent_lines.specs.declared.ends.LineEnd.TheVariants.{WriteFault}
use Rattle.agent_lines.specs.Lining.{Ends, Moment, moment}
use Rattle.agent_lines.specs.Turns.{Halts}
use Rattle.agent_lines.proofs.line.settle.Given as goal

abbrev pub invariant-loop : goal.invariant-loop
invariant-loop g l = record {
  seat : IsSeatOf l.hub l.seat;
  no_fault : l.end ≡ WriteFault → ⊥;
  ends : (first : Moment) (words : Option (List (List ℕ))) (left : Option (List ℕ)) → Halts l.conn l.end first (moment l.fn.seat words left (g.W.Sink.holds l.fn.sink)) l.fn.kept
      → Ends l.conn [] l.end l.kept first (moment l.seat words left (g.W.Sink.holds l.sink));
  counted : g.W.Sink.faults l.fn.sink ≤ g.W.Sink.faults l.sink;
}
