-- What a prompter is to those who ask it: what it says to each question, by the questions that it considered before.
-- The definitions are the project's own.
use Rattle.std.specs.Prelude.{List, [], ◌∷◌, Bool}
use Rattle.side_files.specs.declared.question.Question.{Question}
use Rattle.prompters.specs.declared.prompter.Say.{Say}

-- What it says to a question once it has considered others since now, the first one first, and whether it is spent
-- then.
pub record Manner : Type 0 where
  pub says : List Question → Question → Say
  pub spent : List Question → Bool

-- what it says to a question now
abbrev pub said : Manner → Question → Say
said manner q = manner.says [] q

-- whether it is spent now
abbrev pub is_spent : Manner → Bool
is_spent manner = manner.spent []

-- the manner of a prompter that has considered a question
abbrev pub considered : Question → Manner → Manner
considered q manner = record { says = λ since. manner.says (q ∷ since); spent = λ since. manner.spent (q ∷ since) }
