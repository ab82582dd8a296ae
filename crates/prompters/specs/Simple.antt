-- Prompters that ask nobody. The definitions are the project's own.
use Rattle.std.specs.Prelude.{ℕ, ◌-◌, List, [], ◌∷◌, Bool, false, ◌&&◌, ◌==◌, not, if◌then◌else◌}
use Rattle.attr_tuples.specs.Matching.{matches}
use Rattle.attr_tuples.specs.declared.attr.Attr.{Attr}
use Rattle.side_files.specs.declared.question.Question.{Question}
use Rattle.prompters.specs.declared.prompter.Say.TheVariants.{Yes, No, Pass}
use Rattle.prompters.specs.Manners.{Manner}

-- whether a prompter that may say yes so many times says it to a question
abbrev pub grants : List Attr → ℕ → Question → Bool
grants template left q = not (left == 0) && matches template q.tuple

-- how often it may say yes after a question, and after several, the first one first
abbrev pub left_after : List Attr → ℕ → Question → ℕ
left_after template left q = if grants template left q then left - 1 else left

abbrev pub left_behind : List Attr → ℕ → List Question → ℕ
left_behind template left [] = left
left_behind template left (q ∷ since) = left_behind template (left_after template left q) since

-- It says yes to so many of the questions whose tuples match the template, passes all others on, and is spent when it
-- may say yes no more.
abbrev pub limited : List Attr → ℕ → Manner
limited template left = record {
  says = λ since q. if grants template (left_behind template left since) q then Yes else Pass;
  spent = λ since. left_behind template left since == 0;
}

-- It says no to every question, and is never spent.
abbrev pub denying : Manner
denying = record { says = λ since q. No; spent = λ since. false }

-- those of a program that says yes to so many questions, whatever they are about, and no to all later ones
abbrev pub consenting : ℕ → List Manner
consenting consents = limited [] consents ∷ denying ∷ []
