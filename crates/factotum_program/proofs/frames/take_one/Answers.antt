use Rattle.std.proofs.Common.{◌∙◌}
use Rattle.agent_core.proofs.AgentSteps.{takes_fewer}
use Rattle.factotum_program.specs.Pipe.{text_of}
use Rattle.factotum_program.proofs.PartLemmas.{gathers_more}
use Rattle.factotum_program.proofs.frames.take_one.Goals as goal

pub returns-clause-told : goal.returns-clause-told
returns-clause-told c = λ origin held H stands told. gathers_more origin held _ _ (text_of H) _ (c.in_ok-step.ensures.answer H stands).out told

pub returns-clause-fewer : goal.returns-clause-fewer
returns-clause-fewer c = λ gives. takes_fewer 0 c.args.agent.now.state c.step.new.self.state (c.in_ok-step.ensures.fewer (c.in_ok-step.ensures.gives ∙ gives))
