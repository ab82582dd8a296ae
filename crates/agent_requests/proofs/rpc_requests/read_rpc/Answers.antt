use Rattle.std.proofs.Common.{◌≡◌, Some, sym, ◌∙◌}
use Rattle.agent_history.specs.Conversations.{conv_of}
use Rattle.agent_requests.specs.Connections.{asked}
use Rattle.agent_requests.proofs.KeepLemmas.{found_stands}
use Rattle.agent_requests.proofs.RpcSteps.{read_through}
use Rattle.agent_requests.proofs.rpc_requests.read_rpc.Goals as goal

pub returns-clause-told : goal.returns-clause-told
returns-clause-told c =
    let a = c.args in
    λ done live h.
    let found : conv_of done a.call.conn a.fid ≡ Some c.in-Some.conv = sym (c.conv_at.ensures done h.talks.tells.talks.speak) ∙ c.in-Some.is in
    read_through done (asked a.call) a.fid a.count c.in-Some.conv c.read_talk.new.shared c.in_ok-read_talk.field-0
    (sym (c.has_fid.ensures done live h.mail) ∙ c.if-has_fid.false) (sym (c.is_resting_at.ensures done h.talks.tells.talks.speak) ∙ c.if-is_resting_at.false) (sym (c.is_crowded.ensures done live h) ∙ c.if-is_crowded.false)
    found (c.in_ok-read_talk.ensures.answered done live (found_stands done a.call.conn a.fid c.in-Some.conv found) h)
