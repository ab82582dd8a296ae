use Rattle.agent_talks.specs.Logging.{asking_of}
use Rattle.agent_talks.proofs.AskOtherLemmas.{read_tells}
use Rattle.agent_talks.proofs.DeedLemmas.{handed_ends}
use Rattle.agent_talks.proofs.standing.Conversations.hand_out_line.Goals as goal

pub returns-clause-read : goal.returns-clause-read
returns-clause-read c = λ done h. record {
  tells = read_tells c.hand_out.result c.args.node done (asking_of c.args.self.now) c.hand_out.new.self (c.hand_out.ensures.read done h.tells.files) h.tells;
  ends = handed_ends c.hand_out.result c.args.node done c.args.self.now h.ends;
}
