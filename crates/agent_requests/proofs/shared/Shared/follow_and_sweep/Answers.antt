use Rattle.agent_requests.specs.Serving.{followed}
use Rattle.agent_requests.proofs.ShareLemmas.{swept_shares}
use Rattle.agent_requests.proofs.shared.Shared.follow_and_sweep.Goals as goal

pub returns-clause-shares : goal.returns-clause-shares
returns-clause-shares c =
    let conv = c.args.conv in
    λ done h. swept_shares (followed conv done) c.follow.new.self c.sweep.new.self (λ mail. c.sweep.ensures.delivers (followed conv done) mail) (c.follow.ensures.shares done h)
