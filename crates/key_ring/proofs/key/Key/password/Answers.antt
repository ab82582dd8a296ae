use Rattle.std.proofs.Common.{ap}
use Rattle.key_lists.specs.Lists.{KeyEntry}
use Rattle.key_ring.proofs.KeyLemmas.{password_found}
use Rattle.key_ring.proofs.key.Key.password.Goals as goal

pub returns-clause-given : goal.returns-clause-given
returns-clause-given c = password_found _ _ _ _ (ap (λ (key : KeyEntry). key.tuple) c.self.view_is) c.self.invariant.0 c.as_slice.ensures c.value_of.ensures
