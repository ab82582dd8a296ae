-- How the connections that came and the jobs taken add up, one call after the other.
use Rattle.std.proofs.Common.{◌≡◌, ℕ, ◌≤◌, arith, List, [], ◌∷◌, ◌++◌, None, Some, Ok, Err, refl, sym, ap, ◌∙◌, append_assoc, append-nil}
use Rattle.std.specs.Prelude.{Option}
use Rattle.wire_streams.specs.Causes.{Rose}
use Rattle.wire_streams.specs.Spawning.{Gains}
use Rattle.wire_streams.specs.Listening.{Accepts, Came}

-- nothing came
pub Came-nil : {C : Type 0} → (a : Option (List C)) → Came a a []
Came-nil None = tt
Came-nil (Some x) = refl

-- one more came
pub Came-more : {C : Type 0} → (a b c : Option (List C)) (xs : List C) (x : C) → Came a b xs → Accepts b c (Ok x) → Came a c (xs ++ x ∷ [])
Came-more None b c xs x p q = tt
Came-more (Some a) None c xs x p q = absurd p
Came-more (Some a) (Some b) None xs x p q = absurd q
Came-more (Some a) (Some b) (Some c) xs x p q = p ∙ ap (λ l. xs ++ l) q ∙ sym (append_assoc xs (x ∷ []) c)

-- none came, since accepting failed
pub Came-none : {C : Type 0} → {f : _} → (a b c : Option (List C)) (xs : List C) → Came a b xs → Accepts b c (Err f) → Came a c xs
Came-none None b c xs p q = tt
Came-none (Some a) None c xs p q = absurd p
Came-none (Some a) (Some b) None xs p q = absurd q
Came-none (Some a) (Some b) (Some c) xs p q = p ∙ ap (λ l. xs ++ l) (sym q)

-- no job was taken
pub Gains-nil : {J : Type 0} → (a : Option (List J)) → Gains a a []
Gains-nil None = tt
Gains-nil (Some x) = sym (append-nil x)

-- jobs were taken, and then others
pub Gains-trans : {J : Type 0} → (a b c : Option (List J)) (xs ys : List J) → Gains a b xs → Gains b c ys → Gains a c (xs ++ ys)
Gains-trans a b None xs ys p q = tt
Gains-trans a None (Some z) xs ys p q = absurd q
Gains-trans None (Some y) (Some z) xs ys p q = absurd p
Gains-trans (Some x) (Some y) (Some z) xs ys p q = q ∙ ap (λ l. l ++ ys) p ∙ append_assoc x xs ys

-- the count rose since a later moment, so since an earlier one
pub rose_since : (a b c : ℕ) → a ≤ b → Rose b c → Rose a c
rose_since a b c h r = omega (arith, h, r)
