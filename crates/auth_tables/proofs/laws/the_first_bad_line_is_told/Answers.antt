use Rattle.auth_tables.proofs.BadLaws.{told_iff, none_iff}
use Rattle.auth_tables.proofs.laws.the_first_bad_line_is_told.Goals as goal

pub returns-clause-told : goal.returns-clause-told
returns-clause-told c = told_iff

pub returns-clause-none : goal.returns-clause-none
returns-clause-none c = none_iff
