use Rattle.key_lists.proofs.LineLaws.{keys_are_standing}
use Rattle.agent_history.specs.Deeds.{edits_of}
use Rattle.agent_laws.proofs.laws.keys_are_the_lines_in_order.Goals as goal

pub returns : goal.returns
returns c done = keys_are_standing (edits_of done)
