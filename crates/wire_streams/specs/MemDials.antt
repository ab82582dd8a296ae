-- What a dialer in memory shows of itself. The definitions are the project's own.
use Rattle.std.specs.Prelude.{ℕ, Bool, List, ◌||◌, ◌==◌, length, Option}
use Rattle.std.specs.Option.{option_map}
use Rattle.wire_streams.specs.Dials.{Dialed}
use Rattle.wire_streams.specs.Memory.{fails_next}
use Rattle.wire_streams.specs.declared.dialer.Made.{Made}
use Rattle.wire_streams.specs.declared.mem_dialer.MemDialer.{MemDialer}
use Rattle.wire_streams.specs.declared.memory.FaultPlan.{FaultPlan}

-- The answers that a dialer in memory has left, the calls made as far as it kept them, and the plan of its faults.
abbrev pub answers_left : MemDialer → List (List ℕ)
answers_left dialer = dialer.answers

abbrev pub calls_made : MemDialer → Option (List Made)
calls_made dialer = option_map (λ made. made.items) dialer.made

abbrev pub dialer_plan : MemDialer → FaultPlan
dialer_plan dialer = dialer.plan

-- What it tells: nothing once it found no memory for the record of a call.
abbrev pub dialed : MemDialer → Option Dialed
dialed dialer = option_map (λ calls. record { made = calls; to_come = answers_left dialer }) (calls_made dialer)

-- Whether the next exchange fails: its number is listed, or no answer is left.
abbrev pub ends_or_fails : MemDialer → Bool
ends_or_fails dialer = fails_next (dialer_plan dialer) || (length (answers_left dialer) == 0)
