use Rattle.std.proofs.Common.{◌-◌, ◌≡◌, length, take, drop, length-drop, sym, subst, ◌∙◌, arith, refl}
use Rattle.std.proofs.KnownBytes.{Consumes-kept, Consumes-nil, Consumes-trans}
use Rattle.std.proofs.lemmas.List.{length-take-le}
use Rattle.std.proofs.lemmas.Slice.{take-put_mid_below}
use Rattle.std.specs.Io.KnownBytes.{Consumes}
use Rattle.wire_streams.proofs.StreamLemmas.{filled-length}
use Rattle.pass_program.proofs.FillLemmas.{length_behind, more_behind, none_behind}
use Rattle.pass_program.proofs.fill.fill.Goals as goal

pub loop-have-init : goal.loop-have-init
loop-have-init g c = record {
  consumed = subst (Consumes _ _) (sym (none_behind c.args.from c.args.buffer.now c.requires)) (Consumes-nil (g.R.Source.left c.args.source.now));
  front = refl;
  behind = omega arith;
  within = c.requires;
  room = refl;
  steady = refl;
}

pub loop-have-preserved : goal.loop-have-preserved
loop-have-preserved g c =
    let got = c.in-Bytes.ensures.bytes in
    let here = c.loop-have.invariant in
    let room : length c.read.new.out ≡ length c.loop-have.buffer - c.loop-have.have
    = c.read.auto.out ∙ length-take-le (length c.loop-have.buffer - c.loop-have.have) (drop c.loop-have.have c.loop-have.buffer) (omega (arith, length-drop c.loop-have.have c.loop-have.buffer)) in
    let same = filled-length c.loop-have.buffer c.read.new.out c.loop-have.have here.within room in
    record {
      consumed = subst (Consumes _ _) (sym (more_behind c.loop-have.buffer c.read.new.out c.args.from c.loop-have.have c.in-Bytes.count here.behind here.within got.1)) (Consumes-trans _ _ _ _ _ here.consumed got.2);
      front = take-put_mid_below c.loop-have.have _ c.loop-have.buffer c.read.new.out c.args.from here.behind here.within ∙ here.front;
      behind = omega (arith, here.behind);
      within = omega (arith, same, room, got.1);
      room = same ∙ here.room;
      steady = c.in-Bytes.ensures.exact ∙ here.steady;
    }

pub returns-in-End-clause-err : goal.returns-in-End-clause-err
returns-in-End-clause-err g c =
    let here = c.loop-have.invariant in
    let size = length_behind c.args.from c.loop-have.have c.loop-have.buffer here.behind here.within in (
      drop c.args.from (take c.loop-have.have c.loop-have.buffer),
      Consumes-kept _ _ _ _ here.consumed c.in-End.ensures.bytes.1,
      size,
      omega (arith, size, c.loop-have-test.true, here.room),
      c.in-End.ensures.bytes.0,
    )

pub returns-in-Failed-clause-err : goal.returns-in-Failed-clause-err
returns-in-Failed-clause-err g c =
    let here = c.loop-have.invariant in
    let size = length_behind c.args.from c.loop-have.have c.loop-have.buffer here.behind here.within in (
      drop c.args.from (take c.loop-have.have c.loop-have.buffer),
      Consumes-kept _ _ _ _ here.consumed c.in-Failed.ensures.bytes,
      omega (arith, size, c.loop-have-test.true, here.room),
    )
