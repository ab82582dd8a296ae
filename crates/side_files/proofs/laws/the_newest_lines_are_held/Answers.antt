use Rattle.side_files.proofs.LogLaws.{few_held, held_while_unread, newest_held}
use Rattle.side_files.proofs.laws.the_newest_lines_are_held.Goals as goal

pub returns : goal.returns
returns c = record { newest = newest_held; few = few_held; unread = held_while_unread }
