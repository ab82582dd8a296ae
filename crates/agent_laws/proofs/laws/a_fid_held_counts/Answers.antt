use Rattle.agent_laws.proofs.HeldLaws.{fids_held}
use Rattle.agent_laws.proofs.laws.a_fid_held_counts.Goals as goal

pub returns : goal.returns
returns c = fids_held
