use Rattle.std.proofs.Common.{ℕ, List, sym, subst}
use Rattle.std.proofs.lemmas.Result.{on_ok_weaker}
use Rattle.talks.specs.Calls as calls
use Rattle.agent_history.specs.declared.event.Event.{Event}
use Rattle.agent_history.specs.Replies.{swept}
use Rattle.agent_history.specs.Conversations.{asker, due, resumed}
use Rattle.agent_history.specs.Histories.{does}
use Rattle.agent_requests.specs.Sharing.{Shares}
use Rattle.agent_core.specs.Events.{Known, Lives, known}
use Rattle.agent_core.proofs.EventSteps.{handed_stand, resumed_stand}
use Rattle.agent_core.proofs.events.act.Goals as goal

pub returns-in-TakeAsk-clause-lives : goal.returns-in-TakeAsk-clause-lives
returns-in-TakeAsk-clause-lives c =
    let at : ℕ → Known = known c.args.connections.now in
    on_ok_weaker c.take_ask.result (λ shares go done lives. subst (λ (e : Event). Lives (does done e) at c.take_ask.new.shared) (sym c.in-TakeAsk.is) (record {
      shares = shares done lives.shares;
      connections = handed_stand (due done) done at lives.connections;
    })) c.take_ask.ensures.shares

pub returns-in_ok-hear-in-Answer-clause-lives : goal.returns-in_ok-hear-in-Answer-clause-lives
returns-in_ok-hear-in-Answer-clause-lives c =
    let at : ℕ → Known = known c.args.connections.now in
    λ go done lives. subst (λ (e : Event). Lives (does done e) at c.hear.new.self) (sym c.in-Answer.is) (record {
      shares = subst (λ (b : List ℕ). Shares (swept (resumed (asker done c.in-Answer.call) (calls.Heard b) done)) c.hear.new.self) c.as_slice-in-Answer.ensures (c.in_ok-hear-in-Answer.ensures.shares done lives.shares);
      connections = resumed_stand (asker done c.in-Answer.call) (calls.Heard c.in-Answer.bytes) done at lives.connections;
    })

pub returns-in-NoAnswer-clause-lives : goal.returns-in-NoAnswer-clause-lives
returns-in-NoAnswer-clause-lives c =
    let at : ℕ → Known = known c.args.connections.now in
    λ go done lives. subst (λ (e : Event). Lives (does done e) at c.hear_nothing.new.self) (sym c.in-NoAnswer.is) (record {
      shares = c.hear_nothing.ensures.shares done lives.shares;
      connections = resumed_stand (asker done c.in-NoAnswer.call) (calls.Unheard) done at lives.connections;
    })

pub returns-in-NoRoom-clause-lives : goal.returns-in-NoRoom-clause-lives
returns-in-NoRoom-clause-lives c =
    let at : ℕ → Known = known c.args.connections.now in
    λ go done lives. subst (λ (e : Event). Lives (does done e) at c.lack_room.new.self) (sym c.in-NoRoom.is) (record {
      shares = c.lack_room.ensures.shares done lives.shares;
      connections = resumed_stand (asker done c.in-NoRoom.call) (calls.Roomless) done at lives.connections;
    })
