use Rattle.std.proofs.Common.{arith}
use Rattle.std.proofs.lemmas.Result.{err_from_is_err_and}
use Rattle.nine_print.proofs.ShowLaws.{write_end}
use Rattle.nine_print.proofs.stream.end.Goals as goal

pub returns-in_err-write_lines-clause-err : goal.returns-in_err-write_lines-clause-err
returns-in_err-write_lines-clause-err g c =
    let p = err_from_is_err_and c.from_residual-in_err-write_lines.result c.from_residual-in_err-write_lines.ensures.1 in
    rw (p.1, p.2, c.in_err-write_lines.ensures.err.0) (λ first now origin s at_end.
    write_end c.args.secrets first now origin _ _ c.args.showing.now c.put_torn.new.out s at_end (omega (arith, c.if-held-eq0.false, c.held-held.ensures))
    (rw (c.place.ensures, c.held-held.ensures) at c.in_ok-put_torn.ensures.ok) c.in_err-write_lines.ensures.err.1)
