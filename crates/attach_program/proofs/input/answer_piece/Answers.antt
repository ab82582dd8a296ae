use Rattle.std.proofs.Common.{◌≤◌, ◌+◌, ◌++◌, length, refl, arith}
use Rattle.std.proofs.lemmas.Result.{IfErr-weaker, err_from_is_err_and}
use Rattle.attach_program.specs.Serving.{most_input}
use Rattle.attach_program.specs.Steps.{taken_by}
use Rattle.attach_program.proofs.InputLemmas.{fed, fed_length, piped_more, piped_still, read_so_far, ready_still, stops_more}
use Rattle.attach_program.proofs.input.answer_piece.Goals as goal

pub returns-in-End-clause-ok : goal.returns-in-End-clause-ok
returns-in-End-clause-ok g c = let got = c.in-End.ensures.bytes in
    λ keys first origin q. piped_still keys first _ _ origin _ c.args.framer.now _ _ q got.1 got.2

pub returns-in-End-clause-ready : goal.returns-in-End-clause-ready
returns-in-End-clause-ready g c = ready_still c.args.framer.now _ c.in-End.ensures.bytes.2 c.requires.ready

pub returns-in-Failed-clause-err : goal.returns-in-Failed-clause-err
returns-in-Failed-clause-err g c = let got = c.in-Failed.ensures.bytes in
    λ keys first origin q. read_so_far keys first _ origin _ c.args.framer.now _ (piped_still keys first _ _ origin _ c.args.framer.now c.args.framer.now _ q got.0 refl)

pub returns-in_err-answer_frames-clause-err : goal.returns-in_err-answer_frames-clause-err
returns-in_err-answer_frames-clause-err g c =
    let p = err_from_is_err_and c.from_residual.result c.from_residual.ensures.1 in
    let got = c.in-Bytes.ensures.bytes in
    let few : taken_by c.args.framer.now + length got.1.0 ≤ most_input = omega (arith, got.0, got.1.2, c.taken-left.ensures, c.requires.ready.few) in
    rw (p.1, p.2) (λ keys first origin q. stops_more _ keys first _ _ origin _ _ c.args.framer.now _ got.1.0 q got.1.3 few
    (c.in_err-answer_frames.ensures.err keys origin (q.stream ++ got.1.0) q.handed.run (fed keys origin _ q.stream got.1.0 c.args.framer.now c.fill_within.new.self _ q.handed got.1.4)))

pub returns-clause-ok : goal.returns-clause-ok
returns-clause-ok g c =
    let got = c.in-Bytes.ensures.bytes in
    let few : taken_by c.args.framer.now + length got.1.0 ≤ most_input = omega (arith, got.0, got.1.2, c.taken-left.ensures, c.requires.ready.few) in
    λ keys first origin q. piped_more keys first _ _ origin _ _ c.args.framer.now _ _ _ got.1.0 q got.1.3 few
    (c.in_ok-answer_frames.ensures.ok keys origin (q.stream ++ got.1.0) q.handed.run (fed keys origin _ q.stream got.1.0 c.args.framer.now c.fill_within.new.self _ q.handed got.1.4))

pub returns-clause-ready : goal.returns-clause-ready
returns-clause-ready g c = let got = c.in-Bytes.ensures.bytes in record {
  short = c.in_ok-answer_frames.ensures.short;
  few = omega (arith, got.0, got.1.2, c.taken-left.ensures, c.requires.ready.few, c.in_ok-answer_frames.ensures.fed, fed_length c.args.framer.now c.fill_within.new.self got.1.0 got.1.4);
}

pub returns-clause-more : goal.returns-clause-more
returns-clause-more g c = let got = c.in-Bytes.ensures.bytes in
    λ more. omega (arith, got.1.1, got.1.2, c.in_ok-answer_frames.ensures.fed, fed_length c.args.framer.now c.fill_within.new.self got.1.0 got.1.4)

pub returns-then-left-eq0-clause-err : goal.returns-then-left-eq0-clause-err
returns-then-left-eq0-clause-err g c = IfErr-weaker c.read_over.result _ _ (λ status f keys first origin q. f keys first origin _ c.args.session.now q) c.read_over.ensures.err
