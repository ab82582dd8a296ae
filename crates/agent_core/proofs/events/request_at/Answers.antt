use Rattle.std.proofs.Common.{◌∙◌, true, ◌≡◌, refl, sym}
use Rattle.std.specs.Ordering.{nat_cmp}
use Rattle.std.specs.BTreeMap.{get}
use Rattle.std.proofs.lemmas.Result.{on_ok_weaker}
use Rattle.wire_base.specs.Spans.{has_number}
use Rattle.agent_history.specs.declared.event.Event.TheVariants as events
use Rattle.agent_history.specs.Deeds.{was_hung}
use Rattle.agent_core.proofs.EventSteps.{request_others}
use Rattle.agent_core.proofs.KnownSteps.{not_gone}
use Rattle.agent_core.proofs.LiveSteps.{lives_on}
use Rattle.agent_core.proofs.events.request_at.Goals as goal

pub returns-then-is_gone-clause-lives : goal.returns-then-is_gone-clause-lives
returns-then-is_gone-clause-lives c = λ done lives.
    let hung : was_hung done c.args.conn ≡ true = sym (lives.connections c.args.conn).hung ∙ (sym c.is_gone.ensures ∙ c.if-is_gone.true) in
    rw hung lives

pub returns-clause-lives : goal.returns-clause-lives
returns-clause-lives c =
    let a = c.args in
    let kept = c.keep.new.self in
    let d = c.request.new.connection in
    let found = c.in-Some.ensures.value in
    on_ok_weaker c.request.result (λ serves done lives. lives_on (events.Request a.conn a.frame.now a.word) done a.conn (λ q. has_number kept.gone.ranges q) (λ q. get nat_cmp kept.live q)
    (λ q. get nat_cmp (c.get_mut.follows.lender d) q) _ d _ _
    (not_gone (has_number kept.gone.ranges a.conn) (get nat_cmp kept.live a.conn) c.in_ok-keep.ensures.live) (sym found) (((c.get_mut.follows.holds d).3 (rw (← found) refl)).0)
    (λ q k e s. request_others done a.conn a.frame.now a.word q k e s) (serves done)
    (record { shares = lives.shares; connections = c.in_ok-keep.ensures.stands done lives.connections }))
    c.request.ensures.serves
