use Rattle.pass_program.proofs.SessionLemmas.{lacks_kind}
use Rattle.pass_program.proofs.request.read_kind.Goals as goal

pub returns-in-Err-clause-err : goal.returns-in-Err-clause-err
returns-in-Err-clause-err g c = λ keys o. rw (c.end_of_lack.ensures) (lacks_kind keys o _ _ c.in-Err.lack c.in-Err.ensures.err)
