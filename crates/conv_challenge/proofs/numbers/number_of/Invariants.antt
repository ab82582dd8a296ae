use Rattle.std.proofs.Common.{◌≡◌, ◌<◌, ◌^◌, drop}
use Rattle.conv_challenge.specs.Numbers.{behind}
use Rattle.conv_challenge.proofs.numbers.number_of.Given as goal

-- what the digits that are left make of the number so far is what all of them make, and it is small
abbrev pub invariant-loop-digit : goal.invariant-loop-digit
invariant-loop-digit l = record {
  read : behind l.number (drop l.digit-index l.digits) ≡ behind 0 l.digits;
  small : l.number < 1000 ^ l.digit-index;
}
