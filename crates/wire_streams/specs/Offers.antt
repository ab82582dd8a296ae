-- What one offer does to the bytes that a sink holds, which are optional, since a sink need not tell them. The
-- definitions are the project's own.
use Rattle.std.specs.Prelude.{◌≡◌, ℕ, ◌<◌, ◌≤◌, Bool, true, false, List, [], Option, length, take}
use Rattle.wire_streams.specs.Streams.{Gains}
use Rattle.wire_streams.specs.declared.sink.Put.{Put}
use Rattle.wire_streams.specs.declared.sink.Put.TheVariants.{Took as IsTaken, Failed as NotTaken}
use Rattle.wire_streams.specs.declared.offers.Offer.{Offer}
use Rattle.wire_streams.specs.declared.offers.Offer.TheVariants.{Took, Full, Failed}

-- The first n bytes of the piece, at least one, came behind those that were held; or none came, for want of room or
-- by a failure.
abbrev pub OffersSo : Option (List ℕ) → Option (List ℕ) → Offer → List ℕ → Type 0
OffersSo old new (Took n) piece = (0 < n) × (n ≤ length piece) × Gains old new (take n piece)
OffersSo old new Full piece = Gains old new []
OffersSo old new Failed piece = Gains old new []

abbrev pub offer_failed : Offer → Bool
offer_failed (Took n) = false
offer_failed Full = false
offer_failed Failed = true

-- a write as an offer
abbrev pub offered : Put → Offer
offered (IsTaken n) = Took n
offered NotTaken = Failed
