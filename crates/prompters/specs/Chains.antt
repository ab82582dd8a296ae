-- What prompters that are asked in order answer to a question, and what becomes of them. The definitions are the
-- project's own.
use Rattle.std.specs.Prelude.{◌≡◌, ℕ, ◌+◌, List, [], ◌∷◌, ◌++◌, length, if◌then◌else◌}
use Rattle.side_files.specs.declared.question.Question.{Question}
use Rattle.prompters.specs.declared.prompter.Say.{Say}
use Rattle.prompters.specs.declared.prompter.Say.TheVariants.{Yes, No, Pass}
use Rattle.prompters.specs.Manners.{Manner, considered, is_spent, said}

-- The word of one prompter stands, unless it passes: then that of the later ones does.
abbrev pub or_later : Say → Say → Say
or_later Yes later = Yes
or_later No later = No
or_later Pass later = later

-- the word of the first prompter, in order, that doesn't pass, or No
abbrev pub word_of : Question → List Manner → Say
word_of q [] = No
word_of q (m ∷ later) = or_later (said m q) (word_of q later)

-- the later prompters after one's word: they are asked where it passed, and stay as they are where it didn't
abbrev pub later_after : Say → List Manner → List Manner → List Manner
later_after Yes later asked = later
later_after No later asked = later
later_after Pass later asked = asked

-- a prompter that was asked, before others: it is gone where it is spent
abbrev pub unless_spent : Manner → List Manner → List Manner
unless_spent m later = if is_spent m then later else m ∷ later

-- The prompters after a question: each up to the first that doesn't pass has considered it, the spent ones among these
-- are gone, and the rest keep their order.
abbrev pub after_answer : Question → List Manner → List Manner
after_answer q [] = []
after_answer q (m ∷ later) =
    unless_spent (considered q m) (later_after (said m q) later (after_answer q later))

-- the prompters after several questions, the first one first
abbrev pub after_answers : List Question → List Manner → List Manner
after_answers [] chain = chain
after_answers (q ∷ later) chain = after_answers later (after_answer q chain)

-- Of the code alone: one prompter of a chain was asked, its word is this, and the next one stands at this place.
pub record Asked (q : Question) (at : ℕ) (say : Say) (next : ℕ) (old new : List Manner) : Type 0 where
  pub front : List Manner
  pub one : Manner
  pub later : List Manner
  pub found : old ≡ front ++ one ∷ later
  pub place : length front ≡ at
  pub word : say ≡ said one q
  pub left : new ≡ front ++ unless_spent (considered q one) later
  pub goes_on : next ≡ (if is_spent (considered q one) then at else at + 1)
