use Rattle.std.specs.Prelude.{option_copied}
use Rattle.key_ring.specs.Parts.{list_of}
use Rattle.key_ring.proofs.SearchLemmas.{next_found_greater, next_found_serves}
use Rattle.key_ring.proofs.ring.KeyRing.next_after.Goals as goal

pub returns-clause-serves : goal.returns-clause-serves
returns-clause-serves c = next_found_serves c.args.template.now c.args.role.now c.args.serial (list_of c.self.inside.keys.keys c.self.inside.ever_added) (option_copied c.next_after.result) c.next_after.ensures

pub returns-clause-greater : goal.returns-clause-greater
returns-clause-greater c = next_found_greater c.args.template.now c.args.role.now c.args.serial (list_of c.self.inside.keys.keys c.self.inside.ever_added) (option_copied c.next_after.result) c.self.invariant.ordered c.next_after.ensures
