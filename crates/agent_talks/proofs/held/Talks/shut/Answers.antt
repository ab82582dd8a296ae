use Rattle.std.proofs.Common.{map, ap}
use Rattle.agent_talks.specs.Kept.{question_of}
use Rattle.agent_talks.proofs.SpeakLemmas.{shut_speak}
use Rattle.agent_talks.proofs.held.Talks.shut.Goals as goal

pub returns-clause-shut : goal.returns-clause-shut
returns-clause-shut c = λ done there h. shut_speak done c.args.self.now c.shut_at.new.self c.args.conv c.shut_at.ensures.meets (ap (λ qs. map question_of qs.items) c.shut_at.ensures.questions) there h
