-- What one draw does to the words to come, which are optional, since an object need not tell them; and what the
-- words in memory, and those of a source, show of themselves. The definitions are the project's own.
use Rattle.std.specs.Prelude.{◌≡◌, ◌<◌, ℕ, Bool, List, ◌∷◌, drop, length, Option, None, Some, Result, Ok, Err, ⊤, ◌||◌, ◌==◌, ◌⊎◌}
use Rattle.std.specs.Io.KnownBytes.{Consumes, IsAtEnd}
use Rattle.wire_streams.specs.Causes.{one_more}
use Rattle.wire_streams.specs.Memory.{fails_next}
use Rattle.wire_streams.specs.declared.memory.FaultPlan.{FaultPlan}
use Rattle.wire_streams.specs.declared.words.WordFault.{WordFault}
use Rattle.wire_streams.specs.declared.words.MemWords.{MemWords}
use Rattle.wire_streams.specs.declared.words.ReadWords.{ReadWords}

-- The word drawn is the first of those to come, and is among them no more; a draw that failed leaves them all.
abbrev pub Draws : Option (List (List ℕ)) → Option (List (List ℕ)) → Result (List ℕ) WordFault → Type 0
Draws None new drawn = ⊤
Draws (Some words) None drawn = ⊥
Draws (Some words) (Some later) (Ok word) = words ≡ word ∷ later
Draws (Some words) (Some later) (Err fault) = later ≡ words

-- The words that are left, and the plan of their faults.
abbrev pub words_left : MemWords → List (List ℕ)
words_left words = drop words.at words.content.items

abbrev pub words_plan : MemWords → FaultPlan
words_plan words = words.plan

-- Whether the next draw fails: its number is listed, or no word is left.
abbrev pub ends_or_fails : MemWords → Bool
ends_or_fails words = fails_next (words_plan words) || (length (words_left words) == 0)

-- The source below, and how many draws of its bytes failed.
abbrev pub source_of : {S : Type 0} → ReadWords S → S
source_of words = words.inner

abbrev pub word_faults : {S : Type 0} → ReadWords S → ℕ
word_faults words = words.faults

-- Fewer bytes than these were taken of a source, which then was at its end, or whose next read failed.
pub record EndsEarly (size : ℕ) (old new : Option (List ℕ)) (before now : ℕ) : Type 0 where
  pub taken : List ℕ
  pub consumed : Consumes old new taken
  pub few : length taken < size
  pub cause : (IsAtEnd new × (now ≡ before)) ⊎ (now ≡ one_more before)
