use Rattle.key_lists.proofs.ShowLaws.{list_text_alike}
use Rattle.key_lists.proofs.laws.the_list_shows_no_secret.Goals as goal

pub returns : goal.returns
returns c = list_text_alike
