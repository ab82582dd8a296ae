-- What one call of a spawner adds to the jobs that it took, which are optional, since a spawner need not tell them. The
-- definitions are the project's own.
use Rattle.std.specs.Prelude.{◌≡◌, List, [], ◌∷◌, ◌++◌, Option, None, Some, Result, Ok, Err, ⊤}
use Rattle.wire_streams.specs.declared.spawner.NoStart.{NoStart}

-- Jobs that are told now were told before, and these came behind them. It says nothing where none are told now, since a
-- spawner may stop telling.
abbrev pub Gains : {J : Type 0} → Option (List J) → Option (List J) → List J → Type 0
Gains old None jobs = ⊤
Gains None (Some now) jobs = ⊥
Gains (Some before) (Some now) jobs = now ≡ before ++ jobs

-- A job that was started came behind those that were taken; one that wasn't left them as they were.
abbrev pub Spawns : {J : Type 0} → Option (List J) → Option (List J) → Result ⊤ NoStart → J → Type 0
Spawns old new (Ok done) job = Gains old new (job ∷ [])
Spawns old new (Err fault) job = Gains old new []
