-- Rules in their order, each with what is told where it is broken.
use Rattle.std.specs.Prelude.{List, [], ◌∷◌, Bool, Option, Some, None, if◌then◌else◌}

-- a rule: what breaks it, and what is told then
abbrev pub Rule : Type 0 → Type 0
Rule Told = Bool × Told

-- what is told of the first rule that is broken
abbrev pub first_told : {Told : Type 0} → List (Rule Told) → Option Told
first_told [] = None
first_told (rule ∷ later) = if rule.0 then Some rule.1 else first_told later
