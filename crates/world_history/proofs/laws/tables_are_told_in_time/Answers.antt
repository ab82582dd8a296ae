use Rattle.world_history.proofs.TellLemmas.{asked_known, dom_told, key_told, keys_few, speak_told, speaks_few, tells_again, tells_first, tells_on}
use Rattle.world_history.proofs.laws.tables_are_told_in_time.Goals as goal

pub returns-clause-first : goal.returns-clause-first
returns-clause-first c = tells_first

pub returns-clause-on : goal.returns-clause-on
returns-clause-on c = tells_on

pub returns-clause-dom : goal.returns-clause-dom
returns-clause-dom c = dom_told

pub returns-clause-keys : goal.returns-clause-keys
returns-clause-keys c = key_told

pub returns-clause-speaks : goal.returns-clause-speaks
returns-clause-speaks c = speak_told

pub returns-clause-few_keys : goal.returns-clause-few_keys
returns-clause-few_keys c = keys_few

pub returns-clause-few_speaks : goal.returns-clause-few_speaks
returns-clause-few_speaks c = speaks_few

pub returns-clause-asked : goal.returns-clause-asked
returns-clause-asked c = asked_known

pub returns-clause-again : goal.returns-clause-again
returns-clause-again c = tells_again
