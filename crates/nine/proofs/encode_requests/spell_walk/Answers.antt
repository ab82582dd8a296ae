use Rattle.std.proofs.Common.{arith}
use Rattle.std.proofs.lemmas.Result.{on_ok_weaker}
use Rattle.nine.proofs.FrameLemmas.{framed_four, names_small}
use Rattle.nine.proofs.encode_requests.spell_walk.Goals as goal

pub names_len-requires : goal.names_len-requires
names_len-requires c = omega (arith, names_small c.args.names.now c.requires.each, c.requires.few)

pub overflow_add-names_len : goal.overflow_add-names_len
overflow_add-names_len c = omega (arith, names_small c.args.names.now c.requires.each, c.requires.few, c.names_len.ensures)

pub put_head-requires : goal.put_head-requires
put_head-requires c = omega (arith, names_small c.args.names.now c.requires.each, c.requires.few, c.names_len.ensures)

pub returns-clause-ok : goal.returns-clause-ok
returns-clause-ok c = on_ok_weaker c.put_names.result (λ e. framed_four _ _ _ _ _ _ _ _ _ _ _ _ _ c.in_ok-put_head.ensures.ok c.in_ok-put_u32.ensures.ok c.in_ok-put_u32-2.ensures.ok c.in_ok-put_u16.ensures.ok e (omega (arith, c.names_len.ensures))) c.put_names.ensures.ok
