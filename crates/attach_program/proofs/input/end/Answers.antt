use Rattle.std.proofs.Common.{arith}
use Rattle.attach_program.proofs.InputLemmas.{answered}
use Rattle.attach_program.proofs.input.end.Goals as goal

pub returns-clause-ok : goal.returns-clause-ok
returns-clause-ok c = λ keys first next origin now session p at_end. answered keys first next origin now c.args.framer.now session p at_end (λ some. omega (arith, some, c.if-held-gt0.false, c.held.ensures))
