use Rattle.std.proofs.Common.{◌≡◌, ◌≤◌, ◌-◌, true, length, drop}
use Rattle.attr_tuples.specs.Lines.{is_line}
use Rattle.attr_tuples.specs.Attributes.{is_tuple}
use Rattle.attr_tuples.proofs.ParseLemmas.{GoesOn}
use Rattle.attr_tuples.proofs.parse.parse_words.Given as goal

-- the attributes so far are a tuple, and the rest of the text goes on from there
abbrev pub invariant-loop-next : goal.invariant-loop-next
invariant-loop-next l = (l.next ≤ length l.text) × (is_line (drop l.next l.text) ≡ true) × (is_tuple l.list.items ≡ true) × GoesOn l.text l.list.items l.next

abbrev pub decreases-loop-next : goal.decreases-loop-next
decreases-loop-next l = 36 - length l.list.items
