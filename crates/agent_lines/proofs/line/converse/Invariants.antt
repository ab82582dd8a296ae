use Rattle.std.proofs.Common.{◌≡◌, ◌≤◌}
use Rattle.agent_hub.specs.Submits.{IsSeatOf}
use Rattle.agent_lines.specs.Lining.{moment}
use Rattle.agent_lines.specs.Turns.{Going}
use Rattle.agent_lines.proofs.line.converse.Given as goal

abbrev pub invariant-loop : goal.invariant-loop
invariant-loop g l = record {
  seat : IsSeatOf l.hub l.seat;
  going : Going l.conn (moment l.fn.seat (g.G.Words.to_come l.fn.words) (g.S.Source.left l.fn.source) (g.W.Sink.holds l.fn.sink)) (moment l.seat (g.G.Words.to_come l.words) (g.S.Source.left l.source) (g.W.Sink.holds l.sink)) l.framer l.kept;
  reads : g.S.Source.faults l.fn.source ≤ g.S.Source.faults l.source;
  words : g.G.Words.faults l.fn.words ≤ g.G.Words.faults l.words;
  writes : g.W.Sink.faults l.fn.sink ≤ g.W.Sink.faults l.sink;
}
