use Rattle.std.proofs.lemmas.Result.{on_ok_weaker}
use Rattle.nine.proofs.FrameLemmas.{framed_none}
use Rattle.nine.proofs.encode_replies.spell_bare.Goals as goal

pub returns-clause-ok : goal.returns-clause-ok
returns-clause-ok c = on_ok_weaker c.put_head.result (λ e. framed_none _ _ _ _ e) c.put_head.ensures.ok
