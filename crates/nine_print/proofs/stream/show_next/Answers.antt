use Rattle.std.proofs.Common.{◌++◌, take, length-append, arith}
use Rattle.std.proofs.KnownBytes.{Consumes-trans}
use Rattle.std.proofs.lemmas.List.{length-take-le}
use Rattle.std.proofs.lemmas.Result.{err_from_is_err_and}
use Rattle.nine_print.proofs.ShowLaws.{taken_there, floods, cut_shows}
use Rattle.nine_print.proofs.stream.show_next.Goals as goal

pub returns-then-count-taken_by-clause-err : goal.returns-then-count-taken_by-clause-err
returns-then-count-taken_by-clause-err g c =
    let got = c.in-Bytes.ensures.bytes in
    let taken = take c.in-Bytes.count c.read.new.out in
    λ first origin s.
    floods c.args.secrets first _ _ origin _ c.args.showing.now taken s got.2
    (omega (arith, length-append s.stream taken, length-take-le c.in-Bytes.count c.read.new.out got.1, taken_there c.args.secrets first _ origin _ c.args.showing.now s, c.taken_by.ensures, c.if-count-taken_by.true))

pub returns-in_err-write_piece-clause-err : goal.returns-in_err-write_piece-clause-err
returns-in_err-write_piece-clause-err g c =
    let p = err_from_is_err_and c.from_residual.result c.from_residual.ensures.1 in
    let got = c.in-Bytes.ensures.bytes in
    let taken = take c.in-Bytes.count c.read.new.out in
    rw (p.1, p.2) (λ first origin s.
    cut_shows c.args.secrets _ first _ origin _ (s.stream ++ taken) (Consumes-trans first _ _ s.stream taken s.read got.2)
    (omega (arith, c.requires.few, length-append s.stream taken, length-take-le c.in-Bytes.count c.read.new.out got.1, taken_there c.args.secrets first _ origin _ c.args.showing.now s, c.taken_by.ensures, c.if-count-taken_by.false))
    (c.in_err-write_piece.ensures.err _ origin s.stream s.told))
