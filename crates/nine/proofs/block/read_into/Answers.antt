use Rattle.std.proofs.Common.{◌∙◌, arith}
use Rattle.std.proofs.lemmas.List.Edits.{length-between}
use Rattle.nine.proofs.BlockLemmas.{read_so}
use Rattle.nine.proofs.block.read_into.Goals as goal

pub returns-clause-reads : goal.returns-clause-reads
returns-clause-reads g c = read_so c.args.from c.args.to _ _ c.read.result c.args.bytes.now c.read.new.out (omega (arith, c.requires)) (c.read.auto.out ∙ length-between c.args.bytes.now c.args.from c.args.to c.requires.inside) c.read.ensures.bytes
