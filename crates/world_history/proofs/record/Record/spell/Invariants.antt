use Rattle.std.proofs.Common.{◌≡◌, Some}
use Rattle.world_history.specs.Scripts.{joined, spelled}
use Rattle.world_history.specs.Worlds.{messages_in}
use Rattle.world_history.proofs.record.Record.spell.Given as goal

-- what was spelled, with what the pieces that are left spell, is all that they do
abbrev pub invariant-loop-piece : goal.invariant-loop-piece
invariant-loop-piece l = joined (Some l.all) (spelled (messages_in l.fn.self) l.piece-iterator) ≡ spelled (messages_in l.fn.self) l.fn.pieces
