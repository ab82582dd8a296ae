use Rattle.std.proofs.Common.{◌≡◌, ◌∙◌, List, true, sym}
use Rattle.agent_history.specs.declared.event.Event.TheVariants as events
use Rattle.agent_history.specs.Deeds.{Deed, OfConnection, Hung}
use Rattle.agent_history.specs.Conversations.{given_up_by}
use Rattle.agent_history.specs.Histories.{does}
use Rattle.agent_requests.specs.Sharing.{Shares}
use Rattle.agent_requests.proofs.ShareLemmas.{swept_shares, with_mail}
use Rattle.agent_core.specs.Events.{HungUp, is_open_at, known}
use Rattle.agent_core.proofs.EventSteps.{all_stand, hang_does, hang_others, hang_stands}
use Rattle.agent_core.proofs.events.hang_at.Goals as goal

pub returns-then-is_open-clause-lives : goal.returns-then-is_open-clause-lives
returns-then-is_open-clause-lives c = λ done lives.
    let a = c.args in
    let at = known a.connections.now a.conn in
    let open_now : is_open_at at ≡ true = sym c.is_open.ensures ∙ c.if-is_open.true in
    let last : List Deed = given_up_by (OfConnection a.conn Hung) done in
    let here = lives.connections a.conn in
    record {
      shares = hang_does done a.conn (λ now. Shares now (with_mail c.leave.new.self c.sweep.new.self)) at true open_now here
          (swept_shares last c.leave.new.self c.sweep.new.self (λ h. c.sweep.ensures.delivers last h) (c.leave.ensures.shares done lives.shares));
      connections = all_stand done (does done (events.Hang a.conn)) a.conn (known a.connections.now) (known c.hang_up.new.self) HungUp c.hang_up.ensures (hang_stands done a.conn at open_now here)
          (λ q e s. hang_others done a.conn q _ e s) lives.connections;
    }
