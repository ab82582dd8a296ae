use Rattle.clean_runs.proofs.Shown.{all_secret}
use Rattle.clean_runs.proofs.laws.clean_histories_keep_their_secrets.Goals as goal

pub returns : goal.returns
returns c = all_secret
