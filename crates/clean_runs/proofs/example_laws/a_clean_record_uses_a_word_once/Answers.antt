use Rattle.clean_runs.proofs.WordLaw.{words_once}
use Rattle.clean_runs.proofs.example_laws.a_clean_record_uses_a_word_once.Goals as goal

pub returns : goal.returns
returns c = words_once
