-- What the forms in memory show of themselves: the numbers of the calls that fail, the calls made
-- and the faults so far, and the bytes left or held. The definitions are the project's own.
use Rattle.std.specs.Prelude.{◌≡◌, ℕ, ◌==◌, Bool, List, [], length, min, ⊤}
use Rattle.std.specs.List.{list_any}
use Rattle.wire_streams.specs.Causes.{CountsOutcome, one_more}
use Rattle.wire_streams.specs.declared.source.Got.{Got}
use Rattle.wire_streams.specs.declared.source.Got.TheVariants.{Bytes, End, Failed}
use Rattle.wire_streams.specs.declared.sink.Put.{Put}
use Rattle.wire_streams.specs.declared.sink.Put.TheVariants.{Took, Failed as NotTaken}
use Rattle.wire_streams.specs.declared.memory.FaultPlan.{FaultPlan}
use Rattle.wire_streams.specs.declared.memory.MemSource.{MemSource}
use Rattle.wire_streams.specs.declared.memory.MemSink.{MemSink}

-- The numbers of the calls that are to fail, counted from 1.
abbrev pub failing_calls : FaultPlan → List ℕ
failing_calls plan = plan.fails.items

-- How many calls were made.
abbrev pub calls_of : FaultPlan → ℕ
calls_of plan = plan.calls

-- How many calls failed.
abbrev pub faults_of : FaultPlan → ℕ
faults_of plan = plan.faults

-- Whether the next call is to fail: its number is listed.
abbrev pub fails_next : FaultPlan → Bool
fails_next plan = list_any (λ number. number == one_more (calls_of plan)) (failing_calls plan)

-- One call was made, with or without a fault: the numbers that fail stay.
pub record CountsCall (old new : FaultPlan) (failed : Bool) : Type 0 where
  pub listed : failing_calls new ≡ failing_calls old
  pub calls : calls_of new ≡ one_more (calls_of old)
  pub faults : CountsOutcome (faults_of old) (faults_of new) failed

-- A fault was counted that was not planned.
pub record CountsFault (old new : FaultPlan) : Type 0 where
  pub listed : failing_calls new ≡ failing_calls old
  pub calls : calls_of new ≡ calls_of old
  pub faults : faults_of new ≡ one_more (faults_of old)

-- The plan of a source's faults.
abbrev pub source_plan : MemSource → FaultPlan
source_plan source = source.plan

-- The bytes that the source has left.
abbrev pub unread_bytes : MemSource → List ℕ
unread_bytes source = source.content

-- A read that gives bytes gives all that are left and fit.
abbrev pub GivesAll : List ℕ → ℕ → Got → Type 0
GivesAll left room (Bytes n) = n ≡ min (length left) room
GivesAll left room End = left ≡ []
GivesAll left room Failed = ⊤

-- The plan of a sink's faults.
abbrev pub sink_plan : MemSink → FaultPlan
sink_plan sink = sink.plan

-- The bytes that the sink holds.
abbrev pub held_bytes : MemSink → List ℕ
held_bytes sink = sink.content.items

-- A write that takes bytes takes the whole piece.
abbrev pub TakesAll : Put → List ℕ → Type 0
TakesAll (Took n) piece = n ≡ length piece
TakesAll NotTaken piece = ⊤
