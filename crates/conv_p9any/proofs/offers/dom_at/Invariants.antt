use Rattle.std.proofs.Common.{◌≡◌, []}
use Rattle.std.specs.List.{slice_index_or}
use Rattle.conv_p9any.specs.Cutting.{turns_left, words_left}
use Rattle.conv_p9any.specs.Offers.{eligible_among, offers_text, words}
use Rattle.conv_p9any.specs.Steps.{start_of}
use Rattle.conv_p9any.proofs.offers.dom_at.Given as goal

-- so many words that may be chosen were passed over
abbrev pub invariant-loop-offer : goal.invariant-loop-offer
invariant-loop-offer l =
    slice_index_or (eligible_among l.protocol (start_of l.own) (words_left l.left)) l.before []
    ≡ slice_index_or (eligible_among l.protocol (start_of l.own) (words (offers_text l.list))) l.place []

abbrev pub decreases-loop-offer : goal.decreases-loop-offer
decreases-loop-offer l = turns_left l.left
