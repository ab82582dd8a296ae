use Rattle.agent_talks.specs.Logging.{carried_logged}
use Rattle.agent_requests.proofs.MeetSteps.{carried_shares, is_ready, some_carried}
use Rattle.agent_requests.proofs.shared.Shared.carry_out.Goals as goal

pub returns-clause-carried : goal.returns-clause-carried
returns-clause-carried c =
    let a = c.args in
    λ done there h.
    let ready = is_ready done a.conv a.self.now c.keys-keys.result.now c.asking-asking.result there c.keys-keys.ensures (c.asking-asking.ensures done h.holders) h in
    some_carried done a.conv a.word c.serve_all.new.self c.has_request.result (c.has_request.ensures done there h.talks.tells.talks.speak) c.if-not-has_request.false
    (c.serve_all.ensures.served (carried_logged a.conv a.word done) (carried_shares done a.conv a.word a.self.now c.carry_out.new.self h (c.in_ok-carry_out.ensures.kept done ready h.talks)))
