use Rattle.std.proofs.Common.{◌-◌, ◌≡◌, length, drop, length-drop, sym, subst, ◌∙◌, arith}
use Rattle.std.proofs.KnownBytes.{Consumes-trans}
use Rattle.std.proofs.lemmas.List.{length-take-le}
use Rattle.std.specs.Io.KnownBytes.{Consumes}
use Rattle.wire_streams.proofs.StreamLemmas.{filled-length, filled-more}
use Rattle.wire_streams.proofs.words.fill.Goals as goal

pub loop-at-preserved : goal.loop-at-preserved
loop-at-preserved g c =
    let got = c.in-Bytes.ensures.bytes in
    let here = c.loop-at.invariant in
    let room : length c.read.new.out ≡ length c.loop-at.out - c.loop-at.at
    = c.read.auto.out ∙ length-take-le (length c.loop-at.out - c.loop-at.at) (drop c.loop-at.at c.loop-at.out) (omega (arith, length-drop c.loop-at.at c.loop-at.out)) in
    let same = filled-length c.loop-at.out c.read.new.out c.loop-at.at here.within room in
    record {
      consumed = subst (Consumes _ _) (sym (filled-more c.loop-at.out c.read.new.out c.loop-at.at c.in-Bytes.count here.within got.1)) (Consumes-trans _ _ _ _ _ here.consumed got.2);
      within = omega (arith, same, room, got.1);
      room = same ∙ here.room;
      steady = c.in-Bytes.ensures.exact ∙ here.steady;
    }
