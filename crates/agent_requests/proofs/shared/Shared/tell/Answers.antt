use Rattle.agent_history.specs.Conversations.{standing_of}
use Rattle.agent_requests.proofs.ShareLemmas.{rest_of, tells_shares}
use Rattle.agent_requests.proofs.shared.Shared.tell.Goals as goal

pub returns-clause-tells : goal.returns-clause-tells
returns-clause-tells c =
    let a = c.args in
    λ done there h. tells_shares (standing_of done a.conv).phase done a.self.now c.tell.new.self a.conv a.count c.tell.result (rest_of done a.self.now h) (c.tell.ensures.tells done there h.talks)
