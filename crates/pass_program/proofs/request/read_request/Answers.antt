use Rattle.pass_program.proofs.SessionLemmas.{lacks_rest}
use Rattle.pass_program.proofs.request.read_request.Goals as goal

pub returns-in-Err-clause-err : goal.returns-in-Err-clause-err
returns-in-Err-clause-err g c = λ keys o. rw (c.end_of_lack.ensures) (lacks_rest keys o _ _ _ c.in-Err.lack c.in_ok-read_kind.ensures.ok c.in-Err.ensures.err)
