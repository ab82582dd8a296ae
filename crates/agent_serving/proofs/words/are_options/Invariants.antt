use Rattle.std.proofs.Common.{◌≡◌, ◌≤◌, length}
use Rattle.agent_serving.specs.Words.{are_options}
use Rattle.agent_serving.proofs.words.are_options.Given as goal

-- what is left are options where all words are
abbrev pub invariant-loop-name : goal.invariant-loop-name
invariant-loop-name l = record {
  same : are_options l.left ≡ are_options l.words;
  few : length l.left ≤ length l.words;
}

abbrev pub decreases-loop-name : goal.decreases-loop-name
decreases-loop-name l = length l.left
