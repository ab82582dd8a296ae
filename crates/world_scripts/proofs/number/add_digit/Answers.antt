use Rattle.std.proofs.Common.{◌∙◌}
use Rattle.world_scripts.proofs.NumberLemmas.{none_by_digit, none_by_ten}
use Rattle.world_scripts.proofs.number.add_digit.Goals as goal

pub returns-in_err-checked_mul-clause-none : goal.returns-in_err-checked_mul-clause-none
returns-in_err-checked_mul-clause-none c = none_by_ten c.from_residual.result c.args.number c.args.digit c.in_err-checked_mul.ensures

pub returns-clause-none : goal.returns-clause-none
returns-clause-none c = none_by_digit c.checked_add.result c.args.number c.args.digit c.in_ok-checked_mul.field-0 c.from-digit.result c.in_ok-checked_mul.ensures.1 (c.from-digit.ensures ∙ c.saturating_sub.ensures) c.checked_add.ensures
