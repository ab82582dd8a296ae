use Rattle.clean_runs.proofs.KeyNameLaws.{tell_keys}
use Rattle.clean_runs.proofs.laws.key_names_tell_keys_apart.Goals as goal

pub returns : goal.returns
returns c = tell_keys
