use Rattle.agent_talks.proofs.EndingLemmas.{ended_speak}
use Rattle.agent_talks.proofs.held.Talks.end.Goals as goal

pub returns : goal.returns
returns c = λ done deed is h. ended_speak done c.args.self.now c.leave.new.self deed c.args.leaving is c.leave.ensures h
