-- One wrong answer more, by the parts of which it is made.
use Rattle.std.proofs.Common.{◌≡◌, ℕ, List, ◌∷◌, take, refl}
use Rattle.client_doors.specs.declared.address.Address.{Address}
use Rattle.client_doors.specs.declared.wrongs.Guesser.{Guesser}
use Rattle.client_doors.specs.declared.wrongs.TheConstants.{MOST_ADDRESSES, MOST_TIMES}
use Rattle.client_doors.specs.Wrongs.{after_wrong, remembered, times_of}

abbrev pub guesser : Address → List ℕ → Guesser
guesser a times = record { address = a; times = times }

pub noted : (a : Address) (now : ℕ) (before whole kept put : List Guesser) (found times : List ℕ) → whole ≡ before → found ≡ times_of a whole
    → times ≡ take MOST_TIMES (now ∷ found) → kept ≡ remembered a now whole → put ≡ take MOST_ADDRESSES (guesser a times ∷ kept)
    → put ≡ after_wrong a now before
noted a now before whole kept put found times w f t k p = rw (p, k, t, f, w) refl
