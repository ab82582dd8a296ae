use Rattle.agent_laws.proofs.PublicLaws.{reads_are_public, waits_are_public}
use Rattle.agent_laws.proofs.laws.reads_of_other_files_are_public.Goals as goal

pub returns : goal.returns
returns c = record { reads = reads_are_public; waits = waits_are_public }
