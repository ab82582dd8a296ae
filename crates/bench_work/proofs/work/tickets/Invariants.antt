-- So far the text has been sealed under both keys once for each round.
use Rattle.std.proofs.Common.{◌≡◌}
use Rattle.bench_work.specs.Work.{repeated, sealed_by_both}
use Rattle.bench_work.proofs.work.tickets.Given as goal

abbrev pub invariant-rounds : goal.invariant-rounds
invariant-rounds l = l.text ≡ repeated (sealed_by_both l.one.0 l.other.0) l.round l.fn.text
