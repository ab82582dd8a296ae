use Rattle.std.proofs.Common.{ap, ◌∙◌}
use Rattle.std.specs.Prelude.{option_map}
use Rattle.agent_talks.specs.Kept.{speaker_of}
use Rattle.agent_talks.proofs.SpeakLemmas.{found_speaker}
use Rattle.agent_talks.proofs.held.Talks.speaker_of.Goals as goal

pub returns : goal.returns
returns c = λ done h. ap (option_map speaker_of) c.speaker_of.ensures ∙ found_speaker done c.args.self.now c.args.conv h
