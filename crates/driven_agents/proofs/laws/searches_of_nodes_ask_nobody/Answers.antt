use Rattle.driven_agents.proofs.AskLaws.{ask_for_no_key, ask_no_consent, open_no_lines}
use Rattle.driven_agents.proofs.laws.searches_of_nodes_ask_nobody.Goals as goal

pub returns : goal.returns
returns c = record { holders = open_no_lines; consent = ask_no_consent; key = ask_for_no_key }
