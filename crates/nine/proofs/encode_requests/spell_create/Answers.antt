use Rattle.std.proofs.Common.{arith, ◌++◌, length-append}
use Rattle.std.specs.Int.{w8, w32, to_le_bytes}
use Rattle.std.proofs.lemmas.Result.{on_ok_weaker}
use Rattle.nine.proofs.FrameLemmas.{framed_four}
use Rattle.nine.proofs.encode_requests.spell_create.Goals as goal

pub returns-clause-ok : goal.returns-clause-ok
returns-clause-ok c = on_ok_weaker c.put_u8.result (λ e. framed_four _ _ _ _ _ _ _ _ _ _ _ _ _ c.in_ok-put_head.ensures.ok c.in_ok-put_u32.ensures.ok c.in_ok-put_str.ensures.ok c.in_ok-put_u32-2.ensures.ok e (omega (arith, length-append (c.args.name.now ++ to_le_bytes w32 c.args.perm) (to_le_bytes w8 c.args.mode), length-append c.args.name.now (to_le_bytes w32 c.args.perm)))) c.put_u8.ensures.ok
