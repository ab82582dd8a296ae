use Rattle.agent_requests.proofs.MeetSteps.{is_ready, replied_deeds, replied_shares, replier_stands}
use Rattle.agent_requests.proofs.shared.Shared.reply.Goals as goal

pub returns-clause-replied : goal.returns-clause-replied
returns-clause-replied c =
    let a = c.args in
    λ done is h.
    let ready = is_ready done a.conv a.self.now c.keys-keys.result.now c.asking-asking.result (replier_stands done a.kind a.tag a.conv a.self.now is h) c.keys-keys.ensures (c.asking-asking.ensures done h.holders) h in
    c.follow.ensures.shares (replied_deeds a.kind a.tag a.conv a.agrees done) (replied_shares done a.kind a.tag a.conv a.agrees a.self.now c.reply.new.self h (c.in_ok-reply.ensures.kept done is ready h.talks))
