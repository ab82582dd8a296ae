use Rattle.agent_talks.proofs.AskLemmas.{hands_speak}
use Rattle.agent_talks.proofs.UnaskedLemmas.{handed_fewer}
use Rattle.agent_talks.proofs.held.Talks.hand_out.Goals as goal

pub returns-clause-handed : goal.returns-clause-handed
returns-clause-handed c = λ done h. hands_speak done c.args.self.now c.hand_one.new.self c.hand_one.ensures h

pub returns-clause-fewer : goal.returns-clause-fewer
returns-clause-fewer c = handed_fewer c.args.self.now c.hand_one.new.self c.hand_one.ensures
