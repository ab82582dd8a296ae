use Rattle.std.proofs.Common.{◌≡◌, ℕ, take}
use Rattle.agent_talks.specs.Changes.{left_at}
use Rattle.agent_talks.specs.Ahead.{line_in}
use Rattle.agent_talks.proofs.ends.drop_lines.Given as goal

abbrev pub invariant-loop-speaker : goal.invariant-loop-speaker
invariant-loop-speaker l = (conv : ℕ) → line_in l.ends conv ≡ left_at l.leaving (take l.speaker-index l.speakers) conv (line_in l.fn.ends conv)
