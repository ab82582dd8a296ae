use Rattle.key_lists.proofs.RuleLaws.{told_is_first, first_is_told, none_is_kept}
use Rattle.key_lists.proofs.laws.the_first_broken_rule_is_told.Goals as goal

pub returns : goal.returns
returns c = record { told = told_is_first; first = first_is_told; none = none_is_kept }
