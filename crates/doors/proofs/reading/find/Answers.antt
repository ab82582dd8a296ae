use Rattle.std.proofs.Common.{arith}
use Rattle.std.proofs.lemmas.Result.{IfOk-weaker}
use Rattle.doors.specs.Calls.{read_text}
use Rattle.doors.proofs.ReadLemmas.{none_kept, found_asked}
use Rattle.doors.proofs.reading.find.Goals as goal

pub returns : goal.returns
returns g c = IfOk-weaker c.found_in.result _ _ (λ found is setting past h.
    found_asked (g.P.Port.stands setting) past c.ask.new.port c.args.conversation.now.conv c.args.conversation.now.kept c.in_ok-came.came c.ask.new.answer found (none_kept c.args.conversation.now.kept (omega (arith, c.if-len-gt0.false, c.len.ensures))) (c.in_ok-came.ensures.port setting past h)
    (is c.args.conversation.now.conv read_text c.in_ok-came.ensures.heard)) c.found_in.ensures
