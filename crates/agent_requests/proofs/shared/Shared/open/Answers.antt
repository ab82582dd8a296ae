use Rattle.mailboxes.proofs.DeliveryLemmas.{opened_delivers}
use Rattle.agent_requests.proofs.FidLemmas.{held_opened, live_opened}
use Rattle.agent_requests.proofs.shared.Shared.open.Goals as goal

pub returns-clause-opened : goal.returns-clause-opened
returns-clause-opened c =
    let a = c.args in
    λ done mode live held named h. record {
      ring = h.ring;
      holders = c.open.ensures done mode held named h.holders;
      mail = opened_delivers done a.self.now.mailboxes a.conn a.fid mode h.mail;
      talks = c.in_ok-open_talk.ensures.opened done mode held named h.talks;
      live = live_opened done a.conn a.fid mode live h.live;
      held = held_opened done a.conn a.fid mode live h.held;
    }
