-- What the forms in memory show of themselves: the jobs kept, the connections left, and the plans of their faults. The
-- definitions are the project's own.
use Rattle.std.specs.Prelude.{Bool, ◌||◌, ◌==◌, List, length}
use Rattle.wire_streams.specs.Memory.{fails_next}
use Rattle.wire_streams.specs.declared.memory.FaultPlan.{FaultPlan}
use Rattle.wire_streams.specs.declared.mem_spawner.MemSpawner.{MemSpawner}
use Rattle.wire_streams.specs.declared.mem_listener.MemListener.{MemListener}

abbrev pub jobs_kept : {J : Type 0} → MemSpawner J → List J
jobs_kept spawner = spawner.jobs.items

abbrev pub spawner_plan : {J : Type 0} → MemSpawner J → FaultPlan
spawner_plan spawner = spawner.plan

abbrev pub pairs_left : {I O : Type 0} → MemListener I O → List (I × O)
pairs_left listener = listener.pairs.items

abbrev pub listener_plan : {I O : Type 0} → MemListener I O → FaultPlan
listener_plan listener = listener.plan

-- Whether accepting fails next: the call's number is listed, or no connection is left.
abbrev pub ends_or_fails : {I O : Type 0} → MemListener I O → Bool
ends_or_fails listener = fails_next (listener_plan listener) || (length (pairs_left listener) == 0)
