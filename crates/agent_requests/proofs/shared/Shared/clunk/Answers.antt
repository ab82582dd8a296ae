use Rattle.std.proofs.Common.{List, ◌∷◌, refl}
use Rattle.agent_history.specs.Deeds.{Deed, OfFids, Clunked}
use Rattle.agent_history.specs.Conversations.{all_withdrawn, ended_by}
use Rattle.agent_requests.specs.declared.shared.Shared.{Shared}
use Rattle.agent_requests.proofs.EndSteps.{clunked_shares, withdrawn_hung, withdrawn_rest}
use Rattle.agent_requests.proofs.shared.Shared.clunk.Goals as goal

pub returns-clause-shares : goal.returns-clause-shares
returns-clause-shares c =
    let a = c.args in
    λ done live h.
    let deed : Deed = OfFids a.conn (Clunked a.fid) in
    let before : List Deed = all_withdrawn (ended_by deed done) done in
    let rest = withdrawn_rest done deed a.self.now h in
    let ended : Shared = record { ring = c.forget.new.self; holders = c.clunk.new.self; mailboxes = c.give_up.new.self; talks = c.end.new.self } in
    c.close_both.ensures.shares (deed ∷ before) (clunked_shares done a.conn a.fid a.self.now ended c.forget.ensures h (record {
      holders = c.clunk.ensures before rest.holders;
      mail = c.give_up.ensures.delivers before (withdrawn_hung done deed a.conn live) rest.mail;
      talks = c.end.ensures done deed refl h.talks;
    }))
