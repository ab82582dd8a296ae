-- The table asks what stands in the row.
use Rattle.std.proofs.Common.{◌≡◌, sym, ap, [], ◌∷◌, List, Some}
use Rattle.symbolic_runs.specs.Forms.{Fields}
use Rattle.symbolic_runs.specs.Gifts.{next_gift}
use Rattle.symbolic_runs.specs.Moves.{client, Move, takes, hears, gives, asks, Own}
use Rattle.symbolic_runs.specs.Trees.{Tree}
use Rattle.trace_runs.specs.Gifts.{client_proof}
use Rattle.trace_runs.specs.Rows.{answer_and_question}

pub client_fourth : (own : Own) (before : List Move) (names : Fields) (a q : Tree) → Some (a, q) ≡ answer_and_question before → next_gift own client before names ≡ client_proof own q a
client_fourth own (hears t ∷ asks u ∷ takes r ∷ gives w ∷ []) names a q e =
    let is : ◌≡◌ {A = Tree × Tree} (a, q) (t, u) = cc in
    ap (λ p. client_proof own p.1 p.0) (sym is)
client_fourth own [] names a q e = absurd (cc)
client_fourth own (m1 ∷ []) names a q e = absurd (cc)
client_fourth own (m1 ∷ m2 ∷ []) names a q e = absurd (cc)
client_fourth own (m1 ∷ m2 ∷ m3 ∷ []) names a q e = absurd (cc)
client_fourth own (m1 ∷ m2 ∷ m3 ∷ m4 ∷ []) names a q e = absurd (cc)
client_fourth own (m1 ∷ m2 ∷ m3 ∷ m4 ∷ m0 ∷ more) names a q e = absurd (cc)
