use Rattle.std.proofs.Common.{◌∷◌, []}
use Rattle.side_files.specs.declared.line.PromptKind.TheVariants.{Needkey}
use Rattle.prompters.specs.Requests.{read_of}
use Rattle.agent_serving.proofs.prompts.converse.Goals as goal

pub returns-in-Err-clause-told : goal.returns-in-Err-clause-told
returns-in-Err-clause-told g c = (rw c.in-Err.is at c.open_files-seat.ensures.told) _

pub returns-in-Err-made-clause-told : goal.returns-in-Err-made-clause-told
returns-in-Err-made-clause-told g c = (rw c.in-Err-made.is at c.read-seat.ensures.told) _ _ c.args.seat (read_of Needkey ∷ []) ((rw c.in_default.is at c.open_files-seat.ensures.told) _)

pub returns-in-Err-made-2-clause-told : goal.returns-in-Err-made-2-clause-told
returns-in-Err-made-2-clause-told g c =
    (rw c.in-Err-made-2.is at c.read-seat-2.ensures.told) _ _ c.args.seat [] ((rw c.in_default-made.is at c.read-seat.ensures.told) _ _ c.args.seat (read_of Needkey ∷ []) ((rw c.in_default.is at c.open_files-seat.ensures.told) _))

pub returns-clause-told : goal.returns-clause-told
returns-clause-told g c =
    c.answer_all.ensures.told _ c.args.seat
    ((rw c.in_default-made-2.is at c.read-seat-2.ensures.told) _ _ c.args.seat [] ((rw c.in_default-made.is at c.read-seat.ensures.told) _ _ c.args.seat (read_of Needkey ∷ []) ((rw c.in_default.is at c.open_files-seat.ensures.told) _)))
