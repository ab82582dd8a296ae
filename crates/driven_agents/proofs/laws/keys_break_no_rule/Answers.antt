use Rattle.driven_agents.proofs.KeyLaws.{keys_are_keys}
use Rattle.driven_agents.proofs.laws.keys_break_no_rule.Goals as goal

pub returns : goal.returns
returns c = keys_are_keys
