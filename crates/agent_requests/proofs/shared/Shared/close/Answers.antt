use Rattle.agent_requests.proofs.EndSteps.{few_wait, not_held, now_closed}
use Rattle.agent_requests.proofs.shared.Shared.close.Goals as goal

pub returns-clause-shares : goal.returns-clause-shares
returns-clause-shares c =
    let a = c.args in
    λ done h.
    now_closed done a.kind c.shut_all.new.self (not_held done a.kind c.file_of.result c.has.result c.file_of.ensures (c.has.ensures done h.holders) c.if-has.false)
    (c.shut_all.ensures.shares done (few_wait done a.kind a.self.now c.count-most.result (c.count-most.ensures done h.talks.tells.talks.speak) h) h)
