use Rattle.std.proofs.Common.{◌≡◌, ◌≤◌, length}
use Rattle.agent_lines.specs.Lining.{DrawsAll}
use Rattle.agent_lines.proofs.drawing.draw_words.Given as goal

abbrev pub invariant-loop : goal.invariant-loop
invariant-loop g l = record {
  drew : DrawsAll (g.G.Words.to_come l.fn.words) (g.G.Words.to_come l.words) l.drawn.items;
  long : length l.drawn.items ≡ l.counter;
  counted : g.G.Words.faults l.fn.words ≤ g.G.Words.faults l.words;
}
