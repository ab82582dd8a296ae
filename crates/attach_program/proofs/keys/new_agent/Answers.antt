use Rattle.std.proofs.Common.{[]}
use Rattle.attach_program.proofs.KeyLemmas.{prepared_so}
use Rattle.attach_program.proofs.keys.new_agent.Goals as goal

pub returns : goal.returns
returns c = prepared_so 0 [] c.prepare.new.agent (c.in_ok-prepare.ensures [] [] (record { stands = c.in_ok-agent.ensures; replied = tt }))
