use Rattle.std.proofs.Common.{map, ap}
use Rattle.std.proofs.lemmas.Result.{on_ok_weaker}
use Rattle.talks.specs.Requests.{meant}
use Rattle.agent_talks.specs.Kept.{question_of}
use Rattle.agent_talks.proofs.SpeakLemmas.{stored_speak}
use Rattle.agent_talks.proofs.held.Talks.store.Goals as goal

pub returns-clause-kept : goal.returns-clause-kept
returns-clause-kept c = on_ok_weaker c.store_at.result (λ met done there h. stored_speak done c.args.self.now c.store_at.new.self c.args.conv (meant c.args.request) met (ap (λ qs. map question_of qs.items) c.store_at.ensures.questions) there h) c.store_at.ensures.meets
