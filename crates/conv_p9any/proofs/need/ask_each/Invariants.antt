use Rattle.std.proofs.Common.{◌≡◌, ◌++◌, map}
use Rattle.conv_p9any.specs.Cutting.{turns_left, words_left}
use Rattle.conv_p9any.specs.Inner.{asked_within}
use Rattle.conv_p9any.specs.Offers.{eligible_among, offers_text, words}
use Rattle.conv_p9any.specs.Steps.{start_of}
use Rattle.conv_p9any.proofs.need.ask_each.Given as goal

-- the templates of what is left stand behind those made
abbrev pub invariant-loop-offer : goal.invariant-loop-offer
invariant-loop-offer l =
    l.templates ++ map (asked_within l.protocol (start_of l.own)) (eligible_among l.protocol (start_of l.own) (words_left l.left))
    ≡ map (asked_within l.protocol (start_of l.own)) (eligible_among l.protocol (start_of l.own) (words (offers_text l.list)))

abbrev pub decreases-loop-offer : goal.decreases-loop-offer
decreases-loop-offer l = turns_left l.left
