use Rattle.std.proofs.Common.{◌≡◌, false, sym, refl}
use Rattle.agent_history.specs.Deeds.{was_hung}
use Rattle.agent_core.proofs.EventSteps.{take_nothing, take_serves}
use Rattle.agent_core.proofs.events.take.Goals as goal

pub returns-clause-serves : goal.returns-clause-serves
returns-clause-serves c = λ done before.
    let a = c.args in
    let live : was_hung done a.conn ≡ false = sym before.stands.hung in
    take_serves done a.conn a.connection.now c.enter-2.new.self a.shared.now _ _ _ live before c.enter-2.ensures.opened
    (c.enter-2.ensures.keeps done a.conn (before.stands.keeps live)) c.in-Some.ensures.some refl refl refl (λ now h. c.pop.ensures.delivers now h)

pub returns-in_default-clause-serves : goal.returns-in_default-clause-serves
returns-in_default-clause-serves c = λ done before.
    let a = c.args in
    let live : was_hung done a.conn ≡ false = sym before.stands.hung in
    take_nothing done a.conn a.connection.now c.enter.new.self a.shared.now live before c.enter.ensures.opened
    (c.enter.ensures.keeps done a.conn (before.stands.keeps live)) c.in_default.ensures.none
