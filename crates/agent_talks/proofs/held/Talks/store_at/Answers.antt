use Rattle.std.proofs.Common.{refl}
use Rattle.std.proofs.lemmas.Result.{on_ok_weaker, on_err_weaker}
use Rattle.agent_talks.proofs.NumberedLemmas.{both_met, put_same}
use Rattle.agent_talks.proofs.held.Talks.store_at.Goals as goal

pub returns-in-Some-clause-meets : goal.returns-in-Some-clause-meets
returns-in-Some-clause-meets c =
    let puts = rw c.in-Some.is at c.get_mut.follows.holds c.store.new.self in
    on_ok_weaker c.store.result (λ kept. record { opened = refl; speakers = refl; this = both_met _ _ c.args.conv _ _ _ c.in-Some.ensures.value puts kept; others = puts.others; raised = refl }) c.store.ensures.kept

pub returns-in-Some-clause-same : goal.returns-in-Some-clause-same
returns-in-Some-clause-same c =
    let puts = rw c.in-Some.is at c.get_mut.follows.holds c.store.new.self in
    on_err_weaker c.store.result (λ same. record { opened = refl; speakers = refl; table = put_same _ _ c.args.conv _ _ c.in-Some.ensures.value puts same; raised = refl; questions = refl }) c.store.ensures.unchanged
