use Rattle.driven_agents.proofs.NamesLaws.{names_no_lines}
use Rattle.driven_agents.proofs.laws.nodes_name_no_files_of_lines.Goals as goal

pub returns : goal.returns
returns c = names_no_lines
