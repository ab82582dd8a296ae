use Rattle.std.proofs.Common.{◌≡◌, ◌<◌, ◌^◌, drop}
use Rattle.side_files.specs.Decimals.{number_behind}
use Rattle.side_files.proofs.decimal.read_digits.Given as goal

abbrev pub invariant-loop-byte : goal.invariant-loop-byte
invariant-loop-byte l = record {
  number : number_behind l.number (drop l.byte-index l.text) ≡ number_behind 0 l.text;
  small : l.number < 2 ^ 64;
}
