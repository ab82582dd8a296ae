use Rattle.key_lists.specs.CtlLines.{carried_out}
use Rattle.agent_history.specs.Deeds.{keys_of}
use Rattle.agent_laws.proofs.MetLaws.{keys_of_lines}
use Rattle.agent_laws.proofs.laws.a_write_does_what_its_lines_do.Goals as goal

pub returns : goal.returns
returns c done conn lines = keys_of_lines conn (carried_out (keys_of done) lines) done
