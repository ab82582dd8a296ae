use Rattle.std.proofs.Common.{◌≡◌, ◌-◌}
use Rattle.std.specs.Prelude.{option_copied}
use Rattle.key_lists.specs.Finding.{in_turn}
use Rattle.talks.specs.Searches.{found_by}
use Rattle.talks.specs.Seeking.{found_past}
use Rattle.talks.proofs.seek.search_keys.Given as goal

abbrev pub invariant-loop-turn : goal.invariant-loop-turn
invariant-loop-turn l = found_past l.passed l.said l.asking (in_turn l.template l.role l.ring (l.most - l.turn) (option_copied l.next)) ≡ found_by l.template l.role l.said l.asking l.ring
