use Rattle.agent_requests.proofs.EndSteps.{shut_shares}
use Rattle.agent_requests.proofs.shared.Shared.shut.Goals as goal

pub returns-clause-shares : goal.returns-clause-shares
returns-clause-shares c =
    let a = c.args in
    λ done waits h. c.deliver.ensures.shares _ (shut_shares done a.kind a.conv a.self.now c.shut.new.self h (c.shut.ensures.shut done waits h.talks))
