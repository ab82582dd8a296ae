use Rattle.std.proofs.Common.{◌≡◌, length}
use Rattle.world_history.specs.Told.{dom_behind, ends_domain, told, told_dom}
use Rattle.world_history.proofs.domains.find_domain.Given as goal

-- what was told, and what the lines that are left tell, is all that is told
abbrev pub invariant-loop-line : goal.invariant-loop-line
invariant-loop-line l = dom_behind l.told (told ends_domain l.lines) ≡ told_dom l.fn.lines

abbrev pub decreases-loop-line : goal.decreases-loop-line
decreases-loop-line l = length l.lines
