use Rattle.std.proofs.Common.{arith, length-append}
use Rattle.wire_base.specs.Readers.{spelled}
use Rattle.std.proofs.lemmas.Result.{on_ok_weaker}
use Rattle.nine.proofs.FrameLemmas.{framed_three}
use Rattle.nine.proofs.encode_requests.spell_auth.Goals as goal

pub returns-clause-ok : goal.returns-clause-ok
returns-clause-ok c = on_ok_weaker c.put_str-2.result (λ e. framed_three _ _ _ _ _ _ _ _ _ _ _ c.in_ok-put_head.ensures.ok c.in_ok-put_u32.ensures.ok c.in_ok-put_str.ensures.ok e (omega (arith, length-append c.args.uname.now (spelled c.args.aname.now)))) c.put_str-2.ensures.ok
