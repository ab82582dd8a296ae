use Rattle.std.proofs.Common.{subst}
use Rattle.symbolic_runs.specs.Runs.{IsRun}
use Rattle.symbolic_runs.proofs.Labels.{part_of_run}
use Rattle.symbolic_runs.proofs.Parts.{short_part}
use Rattle.symbolic_runs.proofs.laws.a_part_of_a_run_is_a_run.Goals as goal

pub returns : goal.returns
returns c s run r later past e = record { short = short_part run later past e r.short; by_the_tables = part_of_run s later past (subst (IsRun s) e r.by_the_tables) }
