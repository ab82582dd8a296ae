use Rattle.std.proofs.Common.{List, drop}
use Rattle.agent_history.specs.Deeds.{Deed}
use Rattle.agent_talks.specs.Files.{Files}
use Rattle.agent_talks.proofs.WithdrawLemmas.{Withdrawing}
use Rattle.agent_talks.proofs.files.withdraw_all.Given as goal

abbrev pub invariant-loop-speaker : goal.invariant-loop-speaker
invariant-loop-speaker l = (done : List Deed) → Files done l.fn.files → Withdrawing l.leaving (drop l.speaker-index l.speakers) l.speakers done l.files
