use Rattle.symbolic_runs.proofs.Matching.{matched}
use Rattle.symbolic_runs.proofs.agreement_laws.matching_conversation.Goals as goal

pub returns : goal.returns
returns c s run r a = matched s run r.by_the_tables a
