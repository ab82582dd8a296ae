use Rattle.std.proofs.Common.{refl}
use Rattle.agent_talks.proofs.NumberedLemmas.{both_met}
use Rattle.agent_talks.proofs.held.Talks.hand_answer.Goals as goal

pub returns-in-Some-take_answer-clause-meets : goal.returns-in-Some-take_answer-clause-meets
returns-in-Some-take_answer-clause-meets c =
    let puts = rw c.in-Some.is at c.get_mut.follows.holds c.take_answer.new.self in
    record { opened = refl; speakers = refl; this = both_met _ _ c.args.conv _ _ _ c.in-Some.ensures.value puts c.take_answer.ensures.kept; others = puts.others; raised = refl }

pub returns-in-None-take_answer-clause-meets : goal.returns-in-None-take_answer-clause-meets
returns-in-None-take_answer-clause-meets c =
    let puts = rw c.in-Some.is at c.get_mut.follows.holds c.take_answer.new.self in
    record { opened = refl; speakers = refl; this = both_met _ _ c.args.conv _ _ _ c.in-Some.ensures.value puts c.take_answer.ensures.kept; others = puts.others; raised = refl }
