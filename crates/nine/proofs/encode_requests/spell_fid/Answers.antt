use Rattle.std.proofs.Common.{arith}
use Rattle.std.proofs.lemmas.Result.{on_ok_weaker}
use Rattle.nine.proofs.FrameLemmas.{framed_one}
use Rattle.nine.proofs.encode_requests.spell_fid.Goals as goal

pub returns-clause-ok : goal.returns-clause-ok
returns-clause-ok c = on_ok_weaker c.put_u32.result (λ e. framed_one _ _ _ _ _ _ _ c.in_ok-put_head.ensures.ok e (omega arith)) c.put_u32.ensures.ok
