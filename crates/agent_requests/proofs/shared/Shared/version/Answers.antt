use Rattle.std.proofs.Common.{List, ◌∷◌, refl}
use Rattle.agent_history.specs.Deeds.{Deed, OfFids, Versioned}
use Rattle.agent_history.specs.Conversations.{all_withdrawn, ended_by}
use Rattle.agent_requests.specs.declared.shared.Shared.{Shared}
use Rattle.agent_requests.proofs.EndSteps.{versioned_shares, withdrawn_rest}
use Rattle.agent_requests.proofs.shared.Shared.version.Goals as goal

pub returns-clause-shares : goal.returns-clause-shares
returns-clause-shares c =
    let a = c.args in
    λ done msize live h.
    let deed : Deed = OfFids a.conn (Versioned msize) in
    let before : List Deed = all_withdrawn (ended_by deed done) done in
    let rest = withdrawn_rest done deed a.self.now h in
    let ended : Shared = record { ring = c.forget.new.self; holders = c.leave.new.self; mailboxes = c.drop_waits.new.self; talks = c.end.new.self } in
    c.close_both.ensures.shares (deed ∷ before) (versioned_shares done a.conn msize a.self.now ended c.forget.ensures h (record {
      holders = c.leave.ensures.version before msize rest.holders;
      mail = c.drop_waits.ensures.delivers before msize rest.mail;
      talks = c.end.ensures done deed refl h.talks;
    }))
