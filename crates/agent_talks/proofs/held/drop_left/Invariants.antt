use Rattle.std.proofs.Common.{◌≡◌, ℕ, take}
use Rattle.agent_talks.specs.Changes.{left_at}
use Rattle.agent_talks.specs.Numbered.{kept_in}
use Rattle.agent_talks.proofs.held.drop_left.Given as goal

abbrev pub invariant-loop-speaker : goal.invariant-loop-speaker
invariant-loop-speaker l = (conv : ℕ) → kept_in l.table conv ≡ left_at l.leaving (take l.speaker-index l.speakers) conv (kept_in l.fn.table conv)
