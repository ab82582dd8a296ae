use Rattle.std.proofs.Common.{refl}
use Rattle.agent_talks.proofs.NumberedLemmas.{both_met}
use Rattle.agent_talks.proofs.held.Talks.lack_at.Goals as goal

pub returns-in-Some-clause-meets : goal.returns-in-Some-clause-meets
returns-in-Some-clause-meets c =
    let puts = rw c.in-Some.is at c.get_mut.follows.holds c.roomless.new.self in
    record { opened = refl; speakers = refl; this = both_met _ _ c.args.conv _ _ _ c.in-Some.ensures.value puts c.roomless.ensures; others = puts.others; raised = refl }
