use Rattle.std.specs.Prelude.{option_copied}
use Rattle.key_ring.specs.Parts.{list_of}
use Rattle.key_ring.proofs.SearchLemmas.{found_serves}
use Rattle.key_ring.proofs.ring.KeyRing.find.Goals as goal

pub returns-clause-serves : goal.returns-clause-serves
returns-clause-serves c = found_serves c.args.template.now c.args.role.now (list_of c.self.inside.keys.keys c.self.inside.ever_added) (option_copied c.find.result) c.find.ensures
