use Rattle.factotum_program.proofs.PipeLemmas.{begun, begun_ready}
use Rattle.factotum_program.proofs.pipe.begin.Goals as goal

pub returns-clause-begun : goal.returns-clause-begun
returns-clause-begun c = λ first origin. begun first origin _ _ _ c.in_ok-new.ensures c.in_ok-with_room.ensures.value c.in_ok-with_room.ensures.fresh

pub returns-clause-ready : goal.returns-clause-ready
returns-clause-ready c = begun_ready _ c.in_ok-with_room.ensures.value
