use Rattle.std.proofs.Common.{refl, arith}
use Rattle.std.proofs.lemmas.List.{length-take-le}
use Rattle.attach_program.proofs.InputLemmas.{floods, piped_still, read_so_far}
use Rattle.attach_program.proofs.input.read_over.Goals as goal

pub returns-in-Bytes-clause-err : goal.returns-in-Bytes-clause-err
returns-in-Bytes-clause-err g c = let got = c.in-Bytes.ensures.bytes in
    λ keys first origin now session q. (refl, floods keys first _ _ origin now c.args.framer.now session _ q c.requires.full got.2 (omega (arith, got.0, length-take-le _ _ got.1)))

pub returns-in-End-clause-ok : goal.returns-in-End-clause-ok
returns-in-End-clause-ok g c = let got = c.in-End.ensures.bytes in
    λ keys first origin now session q. piped_still keys first _ _ origin now c.args.framer.now c.args.framer.now session q got.1 refl

pub returns-in-Failed-clause-err : goal.returns-in-Failed-clause-err
returns-in-Failed-clause-err g c =
    λ keys first origin now session q. read_so_far keys first _ origin now c.args.framer.now session (piped_still keys first _ _ origin now c.args.framer.now c.args.framer.now session q c.in-Failed.ensures.bytes refl)
