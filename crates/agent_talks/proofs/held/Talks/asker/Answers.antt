use Rattle.std.proofs.Common.{◌≡◌, rules, ◌∙◌}
use Rattle.agent_talks.specs.Kept.{asker_of}
use Rattle.agent_talks.proofs.AskLemmas.{found_asker}
use Rattle.agent_talks.proofs.held.Talks.asker.Goals as goal

pub returns-clause-told : goal.returns-clause-told
returns-clause-told c =
    let found : c.find_asker.result ≡ asker_of c.args.call c.args.self.now.questions.items = search rules in
    λ done h. found ∙ found_asker done c.args.self.now c.args.call h
