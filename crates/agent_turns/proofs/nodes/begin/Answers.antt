use Rattle.agent_turns.proofs.NodeLemmas.{made}
use Rattle.agent_turns.proofs.nodes.begin.Goals as goal

pub returns : goal.returns
returns c = λ stands.
    let a = (c.in_ok-meets.ensures _ stands).stands in
    let b = (c.in_ok-meets-2.ensures _ a).stands in
    let d = (c.in_ok-meets-3.ensures _ b).stands in
    made _ _ _ _ _ c.in_ok-agrees.ensures.is c.in_ok-attaches.ensures.is c.in_ok-walks.ensures.is c.in_ok-opens.ensures.is (c.in_ok-meets-4.ensures _ d).stands
