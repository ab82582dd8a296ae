use Rattle.std.proofs.Common.{◌≡◌, false, sym, List}
use Rattle.agent_history.specs.Deeds.{Deed, was_hung}
use Rattle.agent_history.specs.Requests.{answered, call_of}
use Rattle.agent_history.specs.Histories.{entered}
use Rattle.agent_requests.proofs.FidLemmas.{shares_entered}
use Rattle.agent_requests.proofs.ShareLemmas.{swept_shares}
use Rattle.agent_core.proofs.EventSteps.{keeps_entered, request_stands}
use Rattle.agent_core.proofs.events.request.Goals as goal

pub returns-clause-serves : goal.returns-clause-serves
returns-clause-serves c = λ done before.
    let a = c.args in
    let last : List Deed = answered (entered a.conn done) (call_of a.conn a.frame.now a.word) a.frame.now in
    let live : was_hung done a.conn ≡ false = sym before.stands.hung in
    let keeps = keeps_entered a.conn a.connection.now done (before.stands.keeps live) in
    let shares = shares_entered done a.conn a.shared.now before.shares in
    record {
      stands = request_stands done a.conn a.frame.now a.word c.enter.new.self live c.enter.ensures.opened
          (c.enter.ensures.keeps last a.conn (rw (← c.tag_of.ensures) (c.in_ok-serve.ensures.keeps (entered a.conn done) keeps shares)));
      shares = rw live (swept_shares last c.serve.new.shared _ (λ h. c.sweep.ensures.delivers last h) (rw (← c.tag_of.ensures) (c.in_ok-serve.ensures.shares (entered a.conn done) keeps shares)));
    }
