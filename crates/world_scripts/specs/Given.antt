-- What the code hands out of a text: parts of it, pieces and lines that lend theirs from it.
use Rattle.std.specs.Prelude.{ℕ, List}
use Rattle.std.specs.Borrow.{Bor}
use Rattle.world_scripts.specs.Pieces.{Piece}
use Rattle.world_scripts.specs.Pieces as p
use Rattle.world_scripts.specs.Scripts.{Numbered}
use Rattle.world_scripts.specs.declared.script.NumberedLine.{NumberedLine}
use Rattle.world_scripts.specs.declared.pieces.Piece.{Piece as LentPiece}
use Rattle.world_scripts.specs.declared.pieces.Piece.TheVariants.{Spelled, Whole, Part}

-- two parts of a text, as they are
abbrev pub both_now : Bor (List ℕ) × Bor (List ℕ) → List ℕ × List ℕ
both_now parts = (parts.0.now, parts.1.now)

-- eight bytes, and what is left of a text behind them
abbrev pub random_now : List ℕ × Bor (List ℕ) → List ℕ × List ℕ
random_now parts = (parts.0, parts.1.now)

abbrev pub said_piece : LentPiece → Piece
said_piece (Spelled digits) = p.Spelled digits.now
said_piece (Whole message) = p.Whole message.now
said_piece (Part message start len) = p.Part message.now start.now len.now

abbrev pub said_number : NumberedLine → Numbered
said_number line = record { number = line.number; text = line.text.now }
