use Rattle.std.proofs.Common.{◌≡◌, ◌≤◌}
use Rattle.conv_p9any.specs.Cutting.{turns_left, words_left}
use Rattle.conv_p9any.specs.Offers.{eligible_among}
use Rattle.conv_p9any.specs.Steps.{start_of}
use Rattle.conv_p9any.proofs.offers.find_eligible.Given as goal

-- no word was passed over that may be chosen
abbrev pub invariant-loop-left : goal.invariant-loop-left
invariant-loop-left l =
    (eligible_among l.protocol (start_of l.own) (words_left l.left) ≡ eligible_among l.protocol (start_of l.own) (words_left l.fn.left))
    × (turns_left l.left ≤ turns_left l.fn.left)

abbrev pub decreases-loop-left : goal.decreases-loop-left
decreases-loop-left l = turns_left l.left
