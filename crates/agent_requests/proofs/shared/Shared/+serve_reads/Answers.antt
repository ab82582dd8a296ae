use Rattle.agent_requests.proofs.ServeSteps.{reads_go_on, reads_stop}
use Rattle.agent_requests.proofs.shared.Shared.+serve_reads.Goals as goal

pub returns-then-serve_first-clause-served : goal.returns-then-serve_first-clause-served
returns-then-serve_first-clause-served _ c =
    let a = c.args in
    λ done live h. reads_go_on a.most a.node a.conn a.fid done c.serve_first.new.self c.serve_reads.new.self c.if-most-eq0.false live (c.if-serve_first.ensures.served done live h) c.serve_reads.ensures.served

pub returns-else-serve_first-clause-served : goal.returns-else-serve_first-clause-served
returns-else-serve_first-clause-served _ c =
    let a = c.args in
    λ done live h. reads_stop a.most a.node a.conn a.fid done c.serve_first.new.self (c.if-serve_first.ensures.served done live h)
