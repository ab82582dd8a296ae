use Rattle.std.proofs.Common.{◌∙◌}
use Rattle.agent_talks.proofs.SpeakLemmas.{found_at}
use Rattle.agent_talks.proofs.held.Talks.conv_at.Goals as goal

pub returns : goal.returns
returns c = λ done h. c.conv_at.ensures ∙ found_at done c.args.self.now c.args.conn c.args.fid h
