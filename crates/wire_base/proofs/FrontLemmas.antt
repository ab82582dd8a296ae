-- What stood in an output before stays its front.
use Rattle.std.proofs.Common.{◌≡◌, ℕ, ◌≤◌, List, ◌++◌, length, take, refl, sym, ap, ◌∙◌, arith, length-append}
use Rattle.std.proofs.lemmas.List.{take-take, take_at}

-- a is the front of b, and b stays the front of c: so does a
pub kept_then : (a b c x : List ℕ) → b ≡ a ++ x → take (length b) c ≡ b → take (length a) c ≡ a
kept_then a b c x e h =
    let le : length a ≤ length b = omega (arith, ap (length {A = ℕ}) e, length-append a x) in
    sym (take-take (length a) (length b) c le) ∙ ap (take (length a)) (h ∙ e) ∙ take_at a x (length a) refl
