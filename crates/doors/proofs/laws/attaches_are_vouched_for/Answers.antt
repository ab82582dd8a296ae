use Rattle.doors.proofs.AttachLaws.{attaches_are_vouched_for}
use Rattle.doors.proofs.laws.attaches_are_vouched_for.Goals as goal

pub returns : goal.returns
returns c = attaches_are_vouched_for
