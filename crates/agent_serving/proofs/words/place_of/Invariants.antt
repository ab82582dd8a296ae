use Rattle.std.proofs.Common.{◌≡◌, ◌≤◌, ◌+◌, length}
use Rattle.agent_serving.specs.Words.{place_of}
use Rattle.agent_serving.proofs.words.place_of.Given as goal

-- what is left tells the place that all words tell
abbrev pub invariant-loop-name : goal.invariant-loop-name
invariant-loop-name l = record {
  same : place_of l.option l.at l.left ≡ place_of l.option l.from l.words;
  few : l.at + length l.left ≤ l.from + length l.words;
}

abbrev pub decreases-loop-name : goal.decreases-loop-name
decreases-loop-name l = length l.left
