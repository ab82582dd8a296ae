use Rattle.std.proofs.Common.{◌≡◌, drop}
use Rattle.agent_talks.specs.Calls.{left}
use Rattle.agent_talks.proofs.kept.KeptCalls.leave.Given as goal

abbrev pub invariant-loop-speaker : goal.invariant-loop-speaker
invariant-loop-speaker l = left l.leaving l.behind (drop l.speaker-index l.speakers) l.self ≡ left l.leaving l.behind l.speakers l.fn.self
