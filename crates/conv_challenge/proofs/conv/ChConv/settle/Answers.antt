use Rattle.std.proofs.Common.{[]}
use Rattle.conv_challenge.proofs.conv.ChConv.settle.Goals as goal

pub returns-in-Ok : goal.returns-in-Ok
returns-in-Ok c = record {
  unchanged = c.advance.ensures.unchanged;
  answer = λ _. c.advance.ensures.answer [];
  follows = λ _. c.advance.ensures.follows [];
}
