use Rattle.prompters.proofs.ConsentLemmas.{no_later, yes_first}
use Rattle.prompters.proofs.laws.consent_is_given_so_often.Goals as goal

pub returns-clause-first : goal.returns-clause-first
returns-clause-first c = yes_first

pub returns-clause-later : goal.returns-clause-later
returns-clause-later c = no_later
