use Rattle.client_doors.proofs.CountLaws.{few_inside, few_of_one, few_remembered}
use Rattle.client_doors.proofs.laws.no_more_are_inside.Goals as goal

pub returns : goal.returns
returns c = record { clients = few_inside; per_address = few_of_one; remembered = few_remembered }
