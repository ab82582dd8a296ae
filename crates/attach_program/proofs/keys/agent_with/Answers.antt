use Rattle.attach_program.specs.Keys.{new_agent}
use Rattle.attach_program.proofs.keys.agent_with.Goals as goal

pub returns-clause-ok : goal.returns-clause-ok
returns-clause-ok c = c.in_ok-give_lines.ensures.ok new_agent c.in_ok-agent.ensures
