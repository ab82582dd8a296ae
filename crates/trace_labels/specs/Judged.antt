-- What is asked of the label of a message that was taken: it spells the message under the reading, and a derivation
-- that is written down concludes it from what is known (Dolev and Yao, On the Security of Public Key Protocols, 1983).
use Rattle.std.specs.Prelude.{◌≡◌, ℕ, List, [], ◌∷◌, ◌++◌, Bool, Some, Ok}
use Rattle.symbolic_runs.specs.declared.proof.ProofStep.{ProofStep}
use Rattle.symbolic_runs.specs.Trees.{Tree, same_tree}
use Rattle.symbolic_runs.specs.Derivations.{conclusions}
use Rattle.symbolic_runs.specs.Spellings.{Atoms, spelling}

-- each step of the derivation holds, and the last concludes this
pub record EndsIn (known : List Tree) (steps : List ProofStep) (t : Tree) : Type 0 where
  pub front : List Tree
  pub holds : conclusions known steps ≡ Some (front ++ t ∷ [])

pub record IsJudged (atoms : Atoms) (known : List Tree) (steps : List ProofStep) (label : Tree)
    (bytes : List ℕ) : Type 0 where
  pub spells : spelling atoms label ≡ Ok bytes
  pub derived : EndsIn known steps label

-- ---- of the code alone

-- the last of these is this; where there are none, it is so by what was said before
abbrev pub last_is : Bool → List Tree → Tree → Bool
last_is so [] t = so
last_is so (end ∷ more) t = last_is (same_tree end t) more t
