use Rattle.std.proofs.Common.{refl, take, arith}
use Rattle.std.proofs.lemmas.List.{length-take-le}
use Rattle.factotum_program.proofs.PipeLemmas.{floods, piped_still, read_so_far}
use Rattle.factotum_program.proofs.pipe.read_over.Goals as goal

pub returns-in-Bytes-clause-err : goal.returns-in-Bytes-clause-err
returns-in-Bytes-clause-err g c = let got = c.in-Bytes.ensures.bytes in
    λ first origin now q. (refl, floods first _ _ origin now c.args.session.now _ q c.requires.full got.2 (omega (arith, got.0, length-take-le _ _ got.1)))

pub returns-in-End-clause-ok : goal.returns-in-End-clause-ok
returns-in-End-clause-ok g c = let got = c.in-End.ensures.bytes in
    λ first origin now q. piped_still first _ _ origin now c.args.session.now c.args.session.now q got.1 refl refl

pub returns-in-Failed-clause-err : goal.returns-in-Failed-clause-err
returns-in-Failed-clause-err g c =
    λ first origin now q. read_so_far first _ origin now c.args.session.now (piped_still first _ _ origin now c.args.session.now c.args.session.now q c.in-Failed.ensures.bytes refl refl)
