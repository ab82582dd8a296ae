use Rattle.std.proofs.lemmas.Result.{IfOk-weaker}
use Rattle.agent_turns.proofs.NodeLemmas.{opened_so}
use Rattle.agent_turns.proofs.nodes.open_rpc.Goals as goal

pub returns-clause-stands : goal.returns-clause-stands
returns-clause-stands c = IfOk-weaker c.meets-2.result _ _ (λ answer told lets H stands.
    let d = c.in_ok-walked.ensures H stands in
    opened_so c.args.fid H _ _ _ c.in_ok-walks.ensures.is c.in_ok-opens.ensures.is (told _ d.stands).stands) c.meets-2.ensures
