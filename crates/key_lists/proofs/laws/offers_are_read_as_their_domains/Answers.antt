use Rattle.key_lists.proofs.OfferLaws.{doms_again}
use Rattle.key_lists.proofs.laws.offers_are_read_as_their_domains.Goals as goal

pub returns : goal.returns
returns c = doms_again
