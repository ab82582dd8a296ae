use Rattle.std.proofs.Common.{Ok, ap}
use Rattle.agent_requests.specs.Connections.{asked}
use Rattle.agent_requests.proofs.LineSteps.{line_none}
use Rattle.agent_requests.proofs.line_requests.read_line.Goals as goal

pub returns-in-Ok-None-clause-told : goal.returns-in-Ok-None-clause-told
returns-in-Ok-None-clause-told c = λ done live h.
    let a = c.args in
    line_none done (asked a.call) a.fid a.count a.node (Ok c.in-Ok-None.field-0) c.hand_out_line.new.self c.wait_for_line.new.shared c.wait_for_line.result (ap Ok c.in-Ok-None.field-0-is)
    (c.in-Ok-None.ensures.answer done h) (c.in-Ok-None.ensures.read done h) (λ same. c.wait_for_line.ensures.told done a.node live same)
