use Rattle.client_doors.proofs.MinuteLaws.{waits_by_all}
use Rattle.client_doors.proofs.laws.waits_are_by_all_that_happened.Goals as goal

pub returns : goal.returns
returns c = waits_by_all
