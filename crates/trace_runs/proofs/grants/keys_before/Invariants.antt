use Rattle.std.proofs.Common.{◌≡◌, map, take}
use Rattle.trace_runs.proofs.grants.keys_before.Given as goal

abbrev pub invariant-loop-number : goal.invariant-loop-number
invariant-loop-number l = map (λ t. t.now) l.before.items ≡ map (λ t. t.keys) (take l.number l.setting.tables)
