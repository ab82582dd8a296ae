use Rattle.std.proofs.Common.{sym, ◌∙◌}
use Rattle.std.proofs.lemmas.Result.{on_ok_weaker}
use Rattle.talks.specs.Calls as calls
use Rattle.agent_talks.proofs.AskLemmas.{heard_speak, unasked_speak}
use Rattle.agent_talks.proofs.UnaskedLemmas.{either_fewer, none_some, unknown_asker}
use Rattle.agent_talks.proofs.held.Talks.heard.Goals as goal

pub returns-in-Some-clause-kept : goal.returns-in-Some-clause-kept
returns-in-Some-clause-kept c = on_ok_weaker c.end_heard.result (λ ended done h. heard_speak done c.args.self.now c.end_heard.new.self c.args.call c.in-Some.conv c.args.bytes.now (sym c.in-Some.is ∙ c.asker.ensures.told done h) ended h) c.end_heard.ensures.ended

pub returns-in-None-clause-kept : goal.returns-in-None-clause-kept
returns-in-None-clause-kept c = λ done h. unasked_speak done c.args.self.now c.args.call (calls.Heard c.args.bytes.now) (sym c.in-None.is ∙ c.asker.ensures.told done h) h

pub returns-in-Some-clause-fewer : goal.returns-in-Some-clause-fewer
returns-in-Some-clause-fewer c = either_fewer c.end_heard.result c.args.self.now c.end_heard.new.self c.in-Some.conv (calls.Heard c.args.bytes.now) c.end_heard.ensures.ended c.end_heard.ensures.same

pub returns-in-Some-clause-unknown : goal.returns-in-Some-clause-unknown
returns-in-Some-clause-unknown c = λ unknown. none_some c.in-Some.conv (sym c.in-Some.is ∙ unknown_asker c.args.self.now c.args.call c.asker.result c.asker.ensures.found unknown)
