-- The parts of a line, put one behind the other.
use Rattle.std.proofs.Common.{◌≡◌, ◌∙◌, ℕ, List, ◌++◌, ap, append_assoc}

parts_joined : (old a b c d e : List ℕ) → ((((old ++ a) ++ b) ++ c) ++ d) ++ e ≡ old ++ (a ++ (b ++ (c ++ (d ++ e))))
parts_joined old a b c d e =
    append_assoc (((old ++ a) ++ b) ++ c) d e
    ∙ (append_assoc ((old ++ a) ++ b) c (d ++ e) ∙ (append_assoc (old ++ a) b (c ++ (d ++ e)) ∙ append_assoc old a (b ++ (c ++ (d ++ e)))))

pub line_made : (old first second third fourth now a b c d e : List ℕ) → first ≡ old ++ a → second ≡ first ++ b → third ≡ second ++ c → fourth ≡ third ++ d → now ≡ fourth ++ e
    → now ≡ old ++ (a ++ (b ++ (c ++ (d ++ e))))
line_made old first second third fourth now a b c d e f g h i j =
    j ∙ (ap (λ (t : List ℕ). t ++ e) (i ∙ ap (λ (t : List ℕ). t ++ d) (h ∙ ap (λ (t : List ℕ). t ++ c) (g ∙ ap (λ (t : List ℕ). t ++ b) f))) ∙ parts_joined old a b c d e)
