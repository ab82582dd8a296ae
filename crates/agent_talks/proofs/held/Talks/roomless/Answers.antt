use Rattle.std.proofs.Common.{◌≡◌, None, rules, sym, ◌∙◌}
use Rattle.talks.specs.Calls as calls
use Rattle.agent_talks.proofs.AskLemmas.{roomless_speak, unasked_speak}
use Rattle.agent_talks.proofs.UnaskedLemmas.{ended_fewer}
use Rattle.agent_talks.proofs.held.Talks.roomless.Goals as goal

pub returns-in-Some-clause-met : goal.returns-in-Some-clause-met
returns-in-Some-clause-met c = λ done h. roomless_speak done c.args.self.now c.end_roomless.new.self c.args.call c.in-Some.conv (sym c.in-Some.is ∙ c.asker.ensures.told done h) c.end_roomless.ensures h

pub returns-in_default-clause-met : goal.returns-in_default-clause-met
returns-in_default-clause-met c =
    let none : c.asker.result ≡ None = search rules in
    λ done h. unasked_speak done c.args.self.now c.args.call calls.Roomless (sym none ∙ c.asker.ensures.told done h) h

pub returns-in-Some-clause-fewer : goal.returns-in-Some-clause-fewer
returns-in-Some-clause-fewer c = ended_fewer c.args.self.now c.end_roomless.new.self c.in-Some.conv calls.Roomless c.end_roomless.ensures
