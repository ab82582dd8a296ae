use Rattle.std.proofs.Common.{◌≡◌, ◌≤◌, drop}
use Rattle.symbolic_runs.specs.Answers.{atoms_of}
use Rattle.trace_runs.specs.Words.{read_in_order}
use Rattle.trace_runs.proofs.words.reads_words.Given as goal

abbrev pub invariant-loop-step : goal.invariant-loop-step
invariant-loop-step l = (read_in_order (atoms_of l.reading) l.before.starts l.before.requests (drop l.step-index l.steps) ≡ read_in_order (atoms_of l.reading) 0 0 l.steps) × (l.before.starts ≤ l.step-index) × (l.before.requests ≤ l.step-index)
