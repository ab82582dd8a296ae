use Rattle.std.proofs.Common.{◌≡◌}
use Rattle.std.specs.List.{list_any}
use Rattle.conv_p9any.specs.Cutting.{turns_left, words_left}
use Rattle.conv_p9any.specs.Offers.{offers_dom, words}
use Rattle.conv_p9any.proofs.offers.is_offered_in.Given as goal

-- no word was passed over that offers the domain
abbrev pub invariant-loop-left : goal.invariant-loop-left
invariant-loop-left l =
    list_any (λ word. offers_dom l.protocol l.dom word) (words_left l.left)
    ≡ list_any (λ word. offers_dom l.protocol l.dom word) (words l.list)

abbrev pub decreases-loop-left : goal.decreases-loop-left
decreases-loop-left l = turns_left l.left
