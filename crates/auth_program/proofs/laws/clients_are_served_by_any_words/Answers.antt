use Rattle.auth_program.proofs.AnyWordLemmas.{are_served}
use Rattle.auth_program.proofs.PosedLemmas.{one_is_servable}
use Rattle.auth_program.proofs.laws.clients_are_served_by_any_words.Goals as goal

pub returns-clause-served : goal.returns-clause-served
returns-clause-served c = are_served

pub returns-clause-one : goal.returns-clause-one
returns-clause-one c = one_is_servable
