-- The agents of nodes, by their names.
use Rattle.std.proofs.Common.{◌≡◌, ℕ, List, ◌∷◌, Bool, true, false, ◌&&◌, ◌==◌, refl, ap, inl, inr}
use Rattle.std.specs.Str.{bytes_eq}
use Rattle.std.specs.Cmp.Lexicographic.{bytes_decides}
use Rattle.std.proofs.lemmas.Bool.{cases_Bool, eq-eqb}
use Rattle.world_history.specs.Acts.{Act, agent_of, restarts}

and_false : (b : Bool) → (b && false) ≡ false
and_false true = refl
and_false false = refl

-- nodes have one agent exactly where they are one
pub agents_apart : (acts : List Act) (one other : List ℕ) → bytes_eq (agent_of acts one) (agent_of acts other) ≡ bytes_eq one other
agents_apart acts one other = elim (cases_Bool (bytes_eq one other)) [
  | inl is ↦ rw (eq-eqb (restarts acts one) (restarts acts other) (ap (restarts acts) ((bytes_decides one other).0 is)), is) refl
  | inr is ↦ rw is (and_false (restarts acts one == restarts acts other))
]
