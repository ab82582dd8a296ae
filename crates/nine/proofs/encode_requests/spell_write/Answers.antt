use Rattle.std.proofs.Common.{arith}
use Rattle.std.proofs.lemmas.Result.{on_ok_weaker}
use Rattle.nine.proofs.FrameLemmas.{framed_four}
use Rattle.nine.proofs.encode_requests.spell_write.Goals as goal

pub returns-clause-ok : goal.returns-clause-ok
returns-clause-ok c = on_ok_weaker c.append.result (λ e. framed_four _ _ _ _ _ _ _ _ _ _ _ _ _ c.in_ok-put_head.ensures.ok c.in_ok-put_u32.ensures.ok c.in_ok-put_u64.ensures.ok c.in_ok-put_u32-2.ensures.ok e (omega arith)) c.append.ensures.ok
