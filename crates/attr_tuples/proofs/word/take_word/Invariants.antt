use Rattle.std.proofs.Common.{length, ◌-◌, ◌≡◌, ◌≤◌, drop}
use Rattle.attr_tuples.specs.Words.{first_word, unquote, prefixed}
use Rattle.attr_tuples.proofs.word.take_word.Given as goal

-- the word is what is kept so far, and then what the rest of the text adds
abbrev pub invariant-loop-next : goal.invariant-loop-next
invariant-loop-next l = (l.fn.at ≤ l.next) × (l.next ≤ length l.text) × (first_word l.at (drop l.at l.text) ≡ prefixed l.word (unquote l.place l.next (drop l.next l.text)))

abbrev pub decreases-loop-next : goal.decreases-loop-next
decreases-loop-next l = length l.text - l.next
