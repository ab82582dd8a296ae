use Rattle.key_ring.proofs.KeyLemmas.{no_user, found_user}
use Rattle.key_ring.proofs.key.Key.user.Goals as goal

pub unreachable-requires : goal.unreachable-requires
unreachable-requires c = no_user _ _ c.self.invariant.0 c.as_slice.ensures c.in-None.ensures

pub returns-clause-valid : goal.returns-clause-valid
returns-clause-valid c = found_user _ _ _ c.self.invariant.0 c.as_slice.ensures c.in-Some.ensures
