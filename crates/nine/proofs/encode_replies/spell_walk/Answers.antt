use Rattle.std.proofs.Common.{arith}
use Rattle.std.proofs.lemmas.Result.{on_ok_weaker}
use Rattle.nine.proofs.FrameLemmas.{framed_two, qids_len}
use Rattle.nine.proofs.encode_replies.spell_walk.Goals as goal

pub returns-clause-ok : goal.returns-clause-ok
returns-clause-ok c = on_ok_weaker c.put_qids.result (λ e. framed_two _ _ _ _ _ _ _ _ _ c.in_ok-put_head.ensures.ok c.in_ok-put_u16.ensures.ok e (omega (arith, qids_len c.args.qids.now))) c.put_qids.ensures.ok
