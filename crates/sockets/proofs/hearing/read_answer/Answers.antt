use Rattle.std.proofs.Common.{◌+◌, ◌-◌, ◌≡◌, ◌≤◌, length, take, drop, length-drop, sym, subst, ◌∙◌, arith}
use Rattle.std.proofs.KnownBytes.{Consumes-trans}
use Rattle.std.proofs.lemmas.List.{length-take-le}
use Rattle.std.specs.Io.KnownBytes.{Consumes}
use Rattle.sockets.specs.Endings.{answer_length}
use Rattle.sockets.proofs.EndingLemmas.{goes_on_in, part-length, part-more}
use Rattle.sockets.proofs.hearing.read_answer.Goals as goal

pub loop-heard-preserved : goal.loop-heard-preserved
loop-heard-preserved g c =
    let got = c.in-Bytes.ensures.bytes in
    let here = c.loop-heard.invariant in
    let size = c.answer_length-wanted.result - c.loop-heard.heard in
    let told = c.answer_length-wanted.ensures in
    let less : c.loop-heard.heard + size ≤ length c.loop-heard.room = omega (arith, told.most, here.within, here.room, c.requires, c.if-wanted-heard.false) in
    let room : length c.read.new.out ≡ size
    = c.read.auto.out ∙ length-take-le size (drop c.loop-heard.heard c.loop-heard.room) (omega (arith, less, length-drop c.loop-heard.heard c.loop-heard.room)) in
    let same = part-length c.loop-heard.room c.read.new.out c.loop-heard.heard size less room in
    let more = part-more c.loop-heard.room c.read.new.out c.loop-heard.heard size c.in-Bytes.count here.within got.1 in
    let fits : c.loop-heard.heard + c.in-Bytes.count ≤ answer_length c.args.shape (take c.loop-heard.heard c.loop-heard.room)
    = omega (arith, told.exact, got.1, room, c.if-wanted-heard.false) in
    record {
      consumed = subst (Consumes _ _) (sym more) (Consumes-trans _ _ _ _ _ here.consumed got.2);
      no_more = goes_on_in c.args.shape c.loop-heard.room c.read.new.out _ c.loop-heard.heard c.in-Bytes.count here.within got.1 more fits;
      within = omega (arith, same, room, got.1, less);
      room = same ∙ here.room;
      steady = c.in-Bytes.ensures.exact ∙ here.steady;
    }
