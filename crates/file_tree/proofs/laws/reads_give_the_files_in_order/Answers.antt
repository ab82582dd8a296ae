use Rattle.file_tree.proofs.DirectoryLaws.{reads_in_order, next_is_read, end_is_empty}
use Rattle.file_tree.proofs.laws.reads_give_the_files_in_order.Goals as goal

pub returns-clause-in_order : goal.returns-clause-in_order
returns-clause-in_order c = reads_in_order

pub returns-clause-next : goal.returns-clause-next
returns-clause-next c = next_is_read

pub returns-clause-end : goal.returns-clause-end
returns-clause-end c = end_is_empty
