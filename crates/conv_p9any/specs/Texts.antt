-- A text that a NUL ends. The most bytes that it may have are this project's.
use Rattle.std.specs.Prelude.{ℕ, ◌+◌, ◌==◌, List, [], ◌∷◌, ◌++◌, nat_lt, length, Option, Some, None, Result, Ok, Err, if◌then◌else◌}
use Rattle.sealing.specs.Fields.{before_nul}
use Rattle.roles.specs.declared.answer.Gave.{Gave}
use Rattle.roles.specs.declared.answer.Gave.TheVariants.{TooSmall, TooLong}
use Rattle.roles.specs.Talks.{Verdict, stays}
use Rattle.conv_p9any.specs.declared.stage.TheConstants.{MOST_TEXT}

-- where a text has its NUL, nothing may stand behind it; without one a byte more is wanted
abbrev pub ended_text : List ℕ → Option (List ℕ) → Result (List ℕ) Gave
ended_text b None = Err (TooSmall (length b + 1))
ended_text b (Some text) = if length b == length text + 1 then Ok text else Err TooLong

-- the text in a message, or what is told where it has none
unfoldable pub text_in : List ℕ → Result (List ℕ) Gave
text_in b = if nat_lt MOST_TEXT (length b) then Err TooLong else ended_text b (before_nul b)

-- what follows from the text, where there is one
abbrev pub with_text : {S : Type 0} → Result (List ℕ) Gave → (List ℕ → Verdict S) → Verdict S
with_text (Ok text) whole = whole text
with_text (Err answer) whole = stays answer

abbrev pub ended_by_nul : {S : Type 0} → List ℕ → (List ℕ → Verdict S) → Verdict S
ended_by_nul b whole = with_text (text_in b) whole

-- a text and its NUL
abbrev pub text_with_nul : List ℕ → List ℕ
text_with_nul text = text ++ 0 ∷ []
