use Rattle.std.proofs.Common.{sym, ◌∙◌, ap, Some}
use Rattle.key_lists.specs.Lists.{KeyEntry}
use Rattle.key_ring.proofs.NumberLemmas.{found_at, found_nowhere}
use Rattle.key_ring.proofs.index.find_key.Goals as goal

pub returns-in-Some : goal.returns-in-Some
returns-in-Some c = ap (λ (key : KeyEntry). Some key) c.index-keys-at.is ∙ found_at _ c.args.keys.now c.in-Some.at c.index-keys-at.result (sym c.in-Some.ensures)

pub returns-in-None : goal.returns-in-None
returns-in-None c = found_nowhere _ c.args.keys.now (sym c.in-None.ensures)
