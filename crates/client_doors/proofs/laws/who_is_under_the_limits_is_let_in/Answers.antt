use Rattle.client_doors.proofs.CountLaws.{let_in_with_address, let_in_without}
use Rattle.client_doors.proofs.laws.who_is_under_the_limits_is_let_in.Goals as goal

pub returns : goal.returns
returns c = record { address = let_in_with_address; no_address = let_in_without }
