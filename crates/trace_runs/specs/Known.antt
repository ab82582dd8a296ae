-- What an attacker knows of a labelled record, as a list whose places a derivation cites: the key and the password of
-- each compromised key name, in the order of the names, and then the labels of all that was given, the first of them
-- first.
use Rattle.std.specs.Prelude.{List, [], ◌∷◌, ◌++◌, reverse, ℕ}
use Rattle.symbolic_runs.specs.Trees.{Tree, long_key, password}
use Rattle.symbolic_runs.specs.Runs.{Setting, Run, given}

abbrev pub secrets_of : List (List ℕ) → List Tree
secrets_of [] = []
secrets_of (name ∷ names) = long_key name ∷ password name ∷ secrets_of names

abbrev pub known_in_order : Setting → Run → List Tree
known_in_order s past = secrets_of s.compromised ++ reverse (given s past)
