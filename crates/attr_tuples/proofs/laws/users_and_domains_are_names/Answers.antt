use Rattle.attr_tuples.proofs.FormLaws.{dom_named, dom_valued, user_named, user_valued}
use Rattle.attr_tuples.proofs.laws.users_and_domains_are_names.Goals as goal

pub returns : goal.returns
returns c = record { user = user_named; user_value = user_valued; dom = dom_named; dom_value = dom_valued }
