use Rattle.std.proofs.Common.{arith}
use Rattle.des_block.proofs.TableLaws.{combined_at}
use Rattle.des_block.proofs.rounds.entry.Goals as goal

pub returns : goal.returns
returns c e = combined_at c.args.rows.now _ _ c.args.number c.args.six e c.from.ensures c.from-2.ensures (omega arith) c.requires.number c.requires.six
