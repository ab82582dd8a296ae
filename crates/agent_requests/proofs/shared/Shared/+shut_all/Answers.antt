use Rattle.agent_requests.proofs.EndSteps.{shut_more}
use Rattle.agent_requests.proofs.shared.Shared.+shut_all.Goals as goal

pub returns-clause-shares : goal.returns-clause-shares
returns-clause-shares _ c =
    let a = c.args in
    λ done few h. shut_more done a.kind a.most c.in-Some.conv a.self.now c.shut.new.self c.shut_all.new.self few h (c.in-Some.ensures.first done h.talks) (c.shut.ensures.shares done (c.in-Some.ensures.some done h.talks) h) c.shut_all.ensures.shares
