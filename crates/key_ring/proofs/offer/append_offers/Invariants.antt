use Rattle.std.proofs.Common.{take}
use Rattle.key_lists.specs.Listing.{doms_of}
use Rattle.key_ring.proofs.OfferLemmas.{IsSoFar}
use Rattle.key_ring.proofs.offer.append_offers.Given as goal

-- the offers of the keys so far
abbrev pub invariant-loop-at : goal.invariant-loop-at
invariant-loop-at l = IsSoFar (doms_of l.template l.role (take l.at l.keys)) l.fn.out l.out l.count l.room
