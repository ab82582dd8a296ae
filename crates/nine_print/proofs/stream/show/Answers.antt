use Rattle.nine_print.proofs.WholeLaws.{two_left}
use Rattle.nine_print.proofs.stream.show.Goals as goal

pub returns-in-Err-clause-complete : goal.returns-in-Err-clause-complete
returns-in-Err-clause-complete g c = λ content told whole few read write.
    two_left c.args.secrets c.in-Err.end content _ _ _ _ c.in-Err.ensures.err told whole few (λ e. read (c.in-Err.ensures.read_fault e)) (λ e. write (c.in-Err.ensures.write_fault e))
