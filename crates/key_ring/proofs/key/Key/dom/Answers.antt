use Rattle.std.proofs.Common.{ap}
use Rattle.key_lists.specs.Lists.{KeyEntry}
use Rattle.key_ring.proofs.KeyLemmas.{found_dom, dom_found}
use Rattle.key_ring.proofs.key.Key.dom.Goals as goal

pub returns-clause-valid : goal.returns-clause-valid
returns-clause-valid c = found_dom _ _ _ c.self.invariant.0 c.as_slice.ensures c.value_of.ensures

pub returns-clause-named : goal.returns-clause-named
returns-clause-named c = dom_found _ _ _ _ (ap (λ (key : KeyEntry). key.tuple) c.self.view_is) c.self.invariant.0 c.as_slice.ensures c.value_of.ensures
