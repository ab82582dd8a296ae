use Rattle.std.proofs.Common.{◌∙◌}
use Rattle.agent_talks.proofs.SpeakLemmas.{counted}
use Rattle.agent_talks.proofs.held.Talks.count.Goals as goal

pub returns : goal.returns
returns c = λ done h. c.len.ensures ∙ counted done c.args.self.now h
