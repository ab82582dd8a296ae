use Rattle.std.proofs.Common.{arith}
use Rattle.factotum_program.proofs.PipeLemmas.{answered}
use Rattle.factotum_program.proofs.pipe.end.Goals as goal

pub returns-clause-ok : goal.returns-clause-ok
returns-clause-ok c = λ first next origin now p at_end. answered first next origin now c.args.session.now p at_end (λ some. omega (arith, some, c.if-held-gt0.false, c.held.ensures))
