use Rattle.key_lists.proofs.OrderLaws.{ordered_after, ordered_added, ordered_deleted}
use Rattle.key_lists.proofs.laws.numbers_rise_and_keys_are_apart.Goals as goal

pub returns : goal.returns
returns c = record { ordered = ordered_after; added = ordered_added; deleted = ordered_deleted }
