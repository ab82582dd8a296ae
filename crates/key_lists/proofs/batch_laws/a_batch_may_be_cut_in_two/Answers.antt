use Rattle.key_lists.proofs.BatchLaws.{goes_on, goes_on_fault, stops, stops_fault}
use Rattle.key_lists.proofs.batch_laws.a_batch_may_be_cut_in_two.Goals as goal

pub returns : goal.returns
returns c = record { goes_on = goes_on; goes_on_fault = goes_on_fault; stops = stops; stops_fault = stops_fault }
