-- What stays where one view changes, where a view comes, and where numbers go to another view.
use Rattle.std.proofs.Common.{◌≡◌, ◌≢◌, ℕ, suc, zero, ◌<◌, List, [], ◌∷◌, ◌++◌, length, set, true, false, cond, sym, refl, ap, ◌∙◌, subst, ⊎_elim, ◌⊎◌, inl, inr, arith}
use mathlib.Core.Logic.{dite}
use mathlib.Core.Option.{some, some-injective, some-ne-none}
use native.Mathlib.Decide.{ℕ_discrete}
use lib.ListN.{get_elem?}
use Rattle.atomic_table.proofs.Lists.{at_set, set_here, set_else, at_longer}
use Rattle.turn_lock.specs.declared.views.Stage.TheVariants.{HasTurn}
use Rattle.turn_lock.specs.declared.views.View.{View}
use Rattle.turn_lock.specs.Fronts.{Front, among}
use Rattle.turn_lock.specs.Rule.{HoldsTurn, IsSeen}

-- the numbers ns go to the view j
abbrev pub hand_over : (ℕ → ℕ) → List ℕ → ℕ → ℕ → ℕ
hand_over f ns j n = cond (among ns n) j (f n)

pub handed : (f : ℕ → ℕ) (ns : List ℕ) (j n : ℕ) → among ns n ≡ true → hand_over f ns j n ≡ j
handed f ns j n e = ap (λ b. cond b j (f n)) e

pub not_handed : (f : ℕ → ℕ) (ns : List ℕ) (j n : ℕ) → among ns n ≡ false → hand_over f ns j n ≡ f n
not_handed f ns j n e = ap (λ b. cond b j (f n)) e

module _ {A : Type 0} where
  pub there : (l : List A) (i : ℕ) (a : A) → get_elem? l i ≡ some a → i < length l
  there [] i a e = absurd (some-ne-none a (sym e))
  there (x ∷ xs) zero a e = omega arith
  there (x ∷ xs) (suc i) a e = let t = there xs i a e in omega (arith, t)

  pub at_end : (l : List A) (a b : A) (j : ℕ) → get_elem? (l ++ a ∷ []) j ≡ some b → (get_elem? l j ≡ some b) ⊎ ((j ≡ length l) × (a ≡ b))
  at_end [] a b zero e = inr (refl, some-injective a b e)
  at_end [] a b (suc j) e = absurd (some-ne-none b (sym e))
  at_end (x ∷ xs) a b zero e = inl e
  at_end (x ∷ xs) a b (suc j) e = ⊎_elim (λ (t : get_elem? xs j ≡ some b). inl t) (λ (t : (j ≡ length xs) × (a ≡ b)). inr (ap suc t.0, t.1)) (at_end xs a b j e)

  pub same_at : (l : List A) (i : ℕ) (a b : A) → get_elem? l i ≡ some a → get_elem? l i ≡ some b → a ≡ b
  same_at l i a b p q = some-injective a b (sym p ∙ q)

module _ {E : Type 0} where
  -- a fact of each view stays where one changes, if it holds of the changed one, and of the others as they are
  pub set_each : (K : ℕ → View E → Type 0) (vs : List (View E)) (id : ℕ) (w : View E) → K id w → ((j : ℕ) (d : View E) → j ≢ id → get_elem? vs j ≡ some d → K j d)
      → (j : ℕ) (d : View E) → get_elem? (set vs id w) j ≡ some d → K j d
  set_each K vs id w mine others j d e = ⊎_elim (λ (t : (j ≡ id) × (w ≡ d)). subst (λ (x : ℕ × View E). K x.0 x.1) (λ i. (sym t.0 i, t.1 i)) mine)
      (λ (t : (j ≢ id) × (get_elem? vs j ≡ some d)). others j d t.0 t.1) (at_set vs id j w d e)

  -- the same where a view comes
  pub add_each : (K : ℕ → View E → Type 0) (vs : List (View E)) (w : View E) → K (length vs) w → ((j : ℕ) (d : View E) → get_elem? vs j ≡ some d → K j d)
      → (j : ℕ) (d : View E) → get_elem? (vs ++ w ∷ []) j ≡ some d → K j d
  add_each K vs w mine others j d e = ⊎_elim (λ (t : get_elem? vs j ≡ some d). others j d t)
      (λ (t : (j ≡ length vs) × (w ≡ d)). subst (λ (x : ℕ × View E). K x.0 x.1) (λ i. (sym t.0 i, t.1 i)) mine) (at_end vs w d j e)

  module _ (vs : List (View E)) (id : ℕ) (v w : View E) (at : get_elem? vs id ≡ some v) where
    pub turn_here : w.stage ≡ HasTurn → HoldsTurn (set vs id w) id
    turn_here here = (w, set_here vs id w (there vs id v at), here)

    -- who has the turn has it still, if the view that changes doesn't lose it
    pub turn_set : (j : ℕ) → (v.stage ≡ HasTurn → w.stage ≡ HasTurn) → HoldsTurn vs j → HoldsTurn (set vs id w) j
    turn_set j stays (d, e, here) = dite (ℕ_discrete j id)
        (λ (same : j ≡ id). let was : get_elem? vs id ≡ some d = subst (λ (k : ℕ). get_elem? vs k ≡ some d) same e in let is_v : d ≡ v = same_at vs id d v was at in
        subst (λ (k : ℕ). HoldsTurn (set vs id w) k) (sym same) (turn_here (stays (subst (λ (x : View E). x.stage ≡ HasTurn) is_v here))))
        (λ (ne : j ≢ id). (d, set_else vs id j w ne ∙ e, here))

    pub seen_set : (log : Front E) → ((v.seen.front ≡ log) ⊎ (v.told.front ≡ log) → (w.seen.front ≡ log) ⊎ (w.told.front ≡ log)) → IsSeen log vs → IsSeen log (set vs id w)
    seen_set log stays (j, d, e, here) = dite (ℕ_discrete j id)
        (λ (same : j ≡ id). let was : get_elem? vs id ≡ some d = subst (λ (k : ℕ). get_elem? vs k ≡ some d) same e in let is_v : d ≡ v = same_at vs id d v was at in
        (id, w, set_here vs id w (there vs id v at), stays (subst (λ (x : View E). (x.seen.front ≡ log) ⊎ (x.told.front ≡ log)) is_v here)))
        (λ (ne : j ≢ id). (j, d, set_else vs id j w ne ∙ e, here))

    pub seen_here : (log : Front E) → w.seen.front ≡ log → IsSeen log (set vs id w)
    seen_here log is = (id, w, set_here vs id w (there vs id v at), inl is)

  pub turn_more : (vs : List (View E)) (w : View E) (j : ℕ) → HoldsTurn vs j → HoldsTurn (vs ++ w ∷ []) j
  turn_more vs w j (d, e, here) = (d, at_longer vs (w ∷ []) j d e, here)

  pub seen_more : (vs : List (View E)) (w : View E) (log : Front E) → IsSeen log vs → IsSeen log (vs ++ w ∷ [])
  seen_more vs w log (j, d, e, here) = (j, d, at_longer vs (w ∷ []) j d e, here)
