use Rattle.std.proofs.Common.{◌+◌, ◌≤◌, length}
use Rattle.attr_tuples.specs.Cutting.{text_lines, turns_left}
use Rattle.agent_history.specs.Histories.{History}
use Rattle.agent_core.specs.Agents.{StandsFor}
use Rattle.attach_program.proofs.KeyLemmas.{Given}
use Rattle.attach_program.proofs.keys.give_lines.Given as goal

-- each turn takes at least a byte or the end of the file
abbrev pub invariant-loop-left : goal.invariant-loop-left
invariant-loop-left l = record {
  given : (H : History) → StandsFor H l.fn.agent → Given H (text_lines l.fn.file) l.left l.number l.agent;
  room : l.number + turns_left l.left ≤ length l.fn.file + 2;
}

abbrev pub decreases-loop-left : goal.decreases-loop-left
decreases-loop-left l = turns_left l.left
