use Rattle.std.proofs.Common.{◌≡◌, List, Some, sym, subst, ◌∙◌}
use Rattle.attr_tuples.specs.declared.attr.Attr.{Attr}
use Rattle.agent_history.specs.Conversations.{standing_of}
use Rattle.agent_talks.specs.Ends.{EndsFor}
use Rattle.agent_talks.specs.Ahead.{new_template}
use Rattle.agent_talks.proofs.LineLemmas.{new_is}
use Rattle.agent_talks.proofs.standing.Conversations.prepare.Goals as goal

pub returns-clause-can : goal.returns-clause-can
returns-clause-can c = λ done there h template coming runs.
    let named : new_template (standing_of done c.args.conv) ≡ Some c.in-Some.template = sym (c.in_ok-template.ensures done there h.tells.talks.speak) ∙ c.in-Some.is in
    let same : c.in-Some.template ≡ template = new_is (standing_of done c.args.conv) c.in-Some.template template named coming in
    c.in_ok-keep_line.ensures.kept template (subst (λ (t : List Attr). EndsFor c.args.conv t c.in_ok-line.line) same c.in_ok-line.ensures)
