use Rattle.key_lists.proofs.ShowLaws.{once_apart, once_keeps}
use Rattle.key_lists.proofs.laws.a_domain_is_offered_once.Goals as goal

pub returns : goal.returns
returns c = record { once = once_apart; each = once_keeps }
