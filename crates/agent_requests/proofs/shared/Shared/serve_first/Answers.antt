use Rattle.agent_history.specs.Replies.{reader}
use Rattle.agent_requests.proofs.ServeSteps.{served_some}
use Rattle.agent_requests.proofs.shared.Shared.serve_first.Goals as goal

pub returns-clause-served : goal.returns-clause-served
returns-clause-served c =
    let a = c.args in
    λ done live h.
    served_some done a.node a.conn (reader done a.conn a.fid) c.in-Some.read c.tell_line.new.self c.settle.new.self c.in-Some-tell_line.reply live (c.in-Some.ensures done live h.mail) (c.in-Some-tell_line.ensures.told done h) c.settle.ensures.delivers
