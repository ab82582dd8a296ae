use Rattle.symbolic_runs.proofs.GiftLaws.{computed, allowed}
use Rattle.symbolic_runs.proofs.laws.gifts_are_computed.Goals as goal

pub returns-clause-computed : goal.returns-clause-computed
returns-clause-computed c = computed

pub returns-clause-allowed : goal.returns-clause-allowed
returns-clause-allowed c = allowed
