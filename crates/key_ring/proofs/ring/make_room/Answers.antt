use Rattle.std.proofs.Common.{◌≡◌, ◌≤◌, length, Some, None, sym, ◌∙◌, arith}
use Rattle.std.specs.List.{position}
use Rattle.key_ring.proofs.PlaceLemmas.{is_same, same_dropped, none_dropped, full_with_none, room_of_same}
use Rattle.key_ring.proofs.ring.make_room.Goals as goal

pub returns-in-None-clause-taken : goal.returns-in-None-clause-taken
returns-in-None-clause-taken c = λ free.
    let none : position (is_same c.args.tuple.now) c.args.keys.now.keys ≡ None = sym c.find_equal.ensures ∙ c.in-None.is in
    let many : 4096 ≤ length c.args.keys.now.keys = omega (arith, c.len.ensures) in
    let full = full_with_none c.args.tuple.now c.args.keys.now.keys none many in
    absurd cc

pub returns-in-Some-clause-full : goal.returns-in-Some-clause-full
returns-in-Some-clause-full c = λ full.
    let found : position (is_same c.args.tuple.now) c.args.keys.now.keys ≡ Some c.in-Some.at = sym c.find_equal.ensures ∙ c.in-Some.is in
    let free = room_of_same c.args.tuple.now c.args.keys.now.keys c.in-Some.at found in
    absurd cc

pub returns-in-Some-clause-dropped : goal.returns-in-Some-clause-dropped
returns-in-Some-clause-dropped c =
    let found : position (is_same c.args.tuple.now) c.args.keys.now.keys ≡ Some c.in-Some.at = sym c.find_equal.ensures ∙ c.in-Some.is in
    c.remove.ensures.items ∙ sym (same_dropped c.args.tuple.now c.args.keys.now.keys c.in-Some.at c.requires.apart found)

pub returns-in_ok-reserve-in-None-2-clause-dropped : goal.returns-in_ok-reserve-in-None-2-clause-dropped
returns-in_ok-reserve-in-None-2-clause-dropped c =
    let none : position (is_same c.args.tuple.now) c.args.keys.now.keys ≡ None = sym c.find_equal.ensures ∙ c.in-None.is in
    c.reserve.ensures.same ∙ sym (none_dropped c.args.tuple.now c.args.keys.now.keys none)
