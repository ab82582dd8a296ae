use Rattle.std.proofs.Common.{add-one}
use Rattle.agent_talks.proofs.LeaveLemmas.{left_more}
use Rattle.agent_talks.proofs.ends.drop_lines.Goals as goal

pub loop-speaker-preserved : goal.loop-speaker-preserved
loop-speaker-preserved c = λ conv. rw add-one (left_more c.args.leaving c.args.speakers.now c.loop-speaker.speaker-index _ conv _ _ _ c.loop-speaker-test.true (c.loop-speaker.invariant conv) (c.drop_line.ensures conv))
