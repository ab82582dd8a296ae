use Rattle.std.proofs.Common.{◌≡◌, drop}
use Rattle.side_files.specs.Askers.{asker_in}
use Rattle.side_files.proofs.prompts.find_asker.Given as goal

abbrev pub invariant-loop-asker : goal.invariant-loop-asker
invariant-loop-asker l = asker_in l.tag (drop l.asker-index l.opened) ≡ asker_in l.tag l.opened
