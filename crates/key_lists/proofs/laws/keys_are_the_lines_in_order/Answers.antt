use Rattle.key_lists.proofs.LineLaws.{keys_are_standing, numbers_are_counts}
use Rattle.key_lists.proofs.laws.keys_are_the_lines_in_order.Goals as goal

pub returns : goal.returns
returns c = record { keys = keys_are_standing; ever_added = numbers_are_counts }
