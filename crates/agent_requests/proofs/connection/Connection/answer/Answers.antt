use Rattle.agent_requests.specs.Connections.{FrameServed, asked}
use Rattle.agent_requests.proofs.ShareLemmas.{shares_still}
use Rattle.agent_requests.proofs.KeepLemmas.{keeps_still}
use Rattle.agent_requests.proofs.FrameSteps.{answered_frame}
use Rattle.agent_requests.proofs.connection.Connection.answer.Goals as goal

pub returns-in-Err-For : goal.returns-in-Err-For
returns-in-Err-For c =
    let a = c.args in
    let h = c.try_frame.ensures in
    record {
      served = λ done keeps shares.
          answered_frame done (asked a.call) a.frame.now c.try_frame.new.self c.try_frame.new.shared (FrameServed done (asked a.call) a.frame.now c.try_frame.new.self c.try_frame.new.shared) c.in-Err-For.why
          (keeps_still done a.call.conn a.self.now c.try_frame.new.self c.in-Err-For.ensures.kept keeps)
          (shares_still done a.shared.now c.try_frame.new.shared c.in-Err-For.ensures.shared shares)
          (rw (← c.in-Err-For.field-0-is) (c.in-Err-For.ensures.told done keeps shares)) c.reply.result c.reply.ensures;
      few = h.few;
      room = h.room;
      kept = tt;
      shared = tt;
    }
