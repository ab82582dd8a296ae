-- So far the password has been replaced once for each round.
use Rattle.std.proofs.Common.{◌≡◌}
use Rattle.bench_work.specs.Work.{next_password, repeated}
use Rattle.bench_work.proofs.work.passwords.Given as goal

abbrev pub invariant-rounds : goal.invariant-rounds
invariant-rounds l = l.last ≡ repeated next_password l.round l.fn.first
