use Rattle.key_lists.proofs.BatchLaws.{ordered_batch, few_added}
use Rattle.key_lists.proofs.batch_laws.a_batch_numbers_its_keys.Goals as goal

pub returns : goal.returns
returns c = record { ordered = ordered_batch; few = few_added }
