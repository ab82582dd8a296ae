use Rattle.std.proofs.Common.{◌≡◌, ◌+◌, ◌<◌, ◌≤◌, ◌^◌, map, length}
use Rattle.std.specs.Vec.Iter.{into_iter_items, into_iter_len}
use Rattle.key_lists.specs.Edits.{additions}
use Rattle.key_lists.specs.Batches.{after_edits, edit_of, edits_fault}
use Rattle.key_ring.specs.Counts.{edits_taken}
use Rattle.key_ring.specs.Parts.{IsRing, list_of}
use Rattle.key_ring.proofs.batch.carry_all.Given as goal

-- what is left of the edits does to the keys as they are what all of them do to the first keys
abbrev pub invariant-loop-edit : goal.invariant-loop-edit
invariant-loop-edit l =
    let left = into_iter_items l.left in
    let list = list_of l.keys.keys l.ever_added in
    let all = map edit_of l.fn.edits.items in
    let first = list_of l.fn.keys.keys l.fn.ever_added in
    record {
      ring : IsRing list;
      count : l.ever_added + length left < 2 ^ 64;
      few : l.ever_added + length left ≤ l.fn.ever_added + length l.fn.edits.items;
      room : additions (map edit_of left) ≤ l.keys.room;
      fault : edits_fault (map edit_of left) list ≡ edits_fault all first;
      taken : l.count + edits_taken (map edit_of left) list ≡ edits_taken all first;
      most : l.count + length left ≡ length l.fn.edits.items;
      after : after_edits (map edit_of left) list ≡ after_edits all first;
    }

abbrev pub decreases-loop-edit : goal.decreases-loop-edit
decreases-loop-edit l = into_iter_len l.left
