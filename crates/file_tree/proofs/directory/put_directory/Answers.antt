use Rattle.std.proofs.Common.{◌≡◌, ◌++◌, length, ap, arith}
use Rattle.std.proofs.lemmas.List.{length-append}
use Rattle.file_tree.specs.Directories.{dir_bytes}
use Rattle.file_tree.proofs.DirectoryLaws.{dir_end_fits}
use Rattle.file_tree.proofs.directory.put_directory.Goals as goal
use Rattle.file_tree.proofs.directory.put_directory.Goals.{After-len}

written : (c : After-len) → c.spell_fitting.new.out ≡ c.args.out.now ++ dir_bytes c.args.node c.args.offset c.args.count
unfolding dir_bytes
written c = rw (c.behind.ensures, c.files.ensures) at c.in-Ok.ensures.ok

pub overflow_add-result : goal.overflow_add-result
overflow_add-result c = omega (arith, ap length (written c), dir_end_fits c.args.node c.args.offset c.args.count, length-append c.args.out.now (dir_bytes c.args.node c.args.offset c.args.count))

pub returns-in-Ok-clause-ok : goal.returns-in-Ok-clause-ok
returns-in-Ok-clause-ok c = written c

pub returns-in-Ok-clause-end : goal.returns-in-Ok-clause-end
returns-in-Ok-clause-end c = omega (arith, ap length (written c), length-append c.args.out.now (dir_bytes c.args.node c.args.offset c.args.count))
