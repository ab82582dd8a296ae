use Rattle.key_lists.proofs.ShowLaws.{fitting_front, fitting_short, fitting_most}
use Rattle.key_lists.proofs.laws.offers_end_where_they_no_longer_fit.Goals as goal

pub returns : goal.returns
returns c = record { front = fitting_front; short = fitting_short; most = fitting_most }
