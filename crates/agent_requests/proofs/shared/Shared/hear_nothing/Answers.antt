use Rattle.std.proofs.Common.{refl}
use Rattle.talks.specs.Calls.{Unheard}
use Rattle.agent_history.specs.Conversations.{asker}
use Rattle.agent_requests.proofs.MeetSteps.{heard_shares, was_done}
use Rattle.agent_requests.proofs.shared.Shared.hear_nothing.Goals as goal

pub returns-clause-shares : goal.returns-clause-shares
returns-clause-shares c =
    let a = c.args in
    λ done h. heard_shares done c.asker-asker.result (asker done a.call) Unheard a.self.now c.server_told.new.self c.follow_and_sweep.new.self (c.asker-asker.ensures.told done h.talks.tells.talks.speak) h (was_done c.server_told.result (c.server_told.ensures.takes_none refl) c.server_told.ensures.told done h.talks) c.follow_and_sweep.ensures.shares
