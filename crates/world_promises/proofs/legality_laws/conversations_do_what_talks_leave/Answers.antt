use Rattle.world_promises.proofs.Legality.{conversations}
use Rattle.world_promises.proofs.legality_laws.conversations_do_what_talks_leave.Goals as goal

pub returns : goal.returns
returns c = conversations
