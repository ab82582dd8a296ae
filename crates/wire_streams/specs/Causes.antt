-- A count of faults as the cause of an answer. The definitions are the project's own.
use Rattle.std.specs.Prelude.{◌≡◌, ℕ, ◌+◌, ◌-◌, ◌^◌, ◌≤◌, Bool, if◌then◌else◌, min}

-- The count rose, or it stands at the last value of a counter of 64 bits, where it can rise no
-- more.
abbrev pub Rose : ℕ → ℕ → Type 0
Rose before now = min (before + 1) (2 ^ 64 - 1) ≤ now

-- One more; a counter of 64 bits stays at its last value.
abbrev pub one_more : ℕ → ℕ
one_more count = min (count + 1) (2 ^ 64 - 1)

-- The count after one call: a failure counts one fault, and nothing else counts any.
abbrev pub CountsOutcome : ℕ → ℕ → Bool → Type 0
CountsOutcome before now failed = now ≡ (if failed then one_more before else before)
