use Rattle.std.proofs.Common.{List, ◌∷◌, refl}
use Rattle.agent_history.specs.Deeds.{Deed, OfConnection, Hung}
use Rattle.agent_history.specs.Conversations.{all_withdrawn, ended_by}
use Rattle.agent_requests.specs.declared.shared.Shared.{Shared}
use Rattle.agent_requests.proofs.EndSteps.{hung_shares, withdrawn_rest}
use Rattle.agent_requests.proofs.shared.Shared.leave.Goals as goal

pub returns-clause-shares : goal.returns-clause-shares
returns-clause-shares c =
    let a = c.args in
    λ done h.
    let deed : Deed = OfConnection a.conn Hung in
    let before : List Deed = all_withdrawn (ended_by deed done) done in
    let rest = withdrawn_rest done deed a.self.now h in
    let ended : Shared = record { ring = c.forget.new.self; holders = c.leave.new.self; mailboxes = c.leave-2.new.self; talks = c.end.new.self } in
    c.close_both.ensures.shares (deed ∷ before) (hung_shares done a.conn a.self.now ended c.forget.ensures h (record {
      holders = c.leave.ensures.hang before rest.holders;
      mail = c.leave-2.ensures.delivers before rest.mail;
      talks = c.end.ensures done deed refl h.talks;
    }))
