use Rattle.std.proofs.Common.{◌≡◌, ◌≤◌, length, reverse}
use Rattle.conv_challenge.specs.Numbers.{behind_blanks}
use Rattle.conv_challenge.proofs.numbers.trim_end.Given as goal

abbrev pub invariant-loop-text : goal.invariant-loop-text
invariant-loop-text l = record {
  same : behind_blanks (reverse l.text) ≡ behind_blanks (reverse l.fn.text);
  shorter : length l.text ≤ length l.fn.text;
}

abbrev pub decreases-loop-text : goal.decreases-loop-text
decreases-loop-text l = length l.text
