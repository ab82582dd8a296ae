use Rattle.file_tree.proofs.WalkLaws.{found_by_name, leads_up, nothing_below}
use Rattle.file_tree.proofs.laws.names_lead_down_and_up.Goals as goal

pub returns-clause-down : goal.returns-clause-down
returns-clause-down c = found_by_name

pub returns-clause-up : goal.returns-clause-up
returns-clause-up c = leads_up

pub returns-clause-nothing_under_a_file : goal.returns-clause-nothing_under_a_file
returns-clause-nothing_under_a_file c = nothing_below
