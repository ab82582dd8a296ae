use Rattle.std.proofs.Common.{ap, not, ◌∙◌}
use Rattle.agent_turns.proofs.nodes.meets.Goals as goal

pub returns : goal.returns
returns c = λ H stands.
    let d = c.in_ok-driven.ensures H stands in
    record { stands = d.stands; told = ap not (c.is_refused.ensures _ (c.as_slice.ensures ∙ d.replies)) }
