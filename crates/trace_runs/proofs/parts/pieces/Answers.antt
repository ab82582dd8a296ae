use Rattle.trace_runs.proofs.PartLaws.{pieces_are}
use Rattle.trace_runs.proofs.parts.pieces.Goals as goal

pub returns-in-Cat : goal.returns-in-Cat
returns-in-Cat c = pieces_are c.args.term.now c.in-Cat.pieces c.as_slice.result.now c.in-Cat.is c.as_slice.ensures
