use Rattle.std.proofs.Common.{◌≤◌, ◌-◌, ◌+◌, length, take, drop, ap, sym, ◌∙◌, arith, length-drop}
use Rattle.std.proofs.lemmas.List.{length-take-le, with_items_is}
use borrow.Rule.Slice.PartMut.{put_mid, same_len_mid}
use Rattle.wire_streams.proofs.HandLemmas.{held_behind}
use Rattle.wire_streams.proofs.held_ahead.Held.take_into.Goals as goal

pub returns-clause-left : goal.returns-clause-left
returns-clause-left c =
    let held = c.self.inside in
    let n = c.min-count.result in
    let width = held.at + n - held.at in
    let room = c.deref_mut.result.now in
    let zeros = c.fill.new.self in
    let same = c.deref_mut.ensures.value in
    let fits : n ≤ held.end - held.at = omega (arith, c.min-count.ensures) in
    let within : held.end ≤ length room = omega (arith, ap length same, c.self.invariant) in
    let size = c.fill.auto.self ∙ length-take-le width (drop held.at room) (omega (arith, length-drop held.at room, fits, within, c.self.invariant)) in
    let whole = same_len_mid held.at width room zeros c.fill.auto.self ∙ ap length same ∙ sym held.room.ok.0 in
    ap (λ r. take (held.end - (held.at + n)) (drop (held.at + n) r)) (with_items_is held.room (put_mid held.at width room zeros) whole)
    ∙ held_behind held.at n held.end room zeros c.self.invariant.0 fits within size
    ∙ ap (λ r. drop n (take (held.end - held.at) (drop held.at r))) same
    ∙ ap (λ l. drop n l) c.self.view_is
