-- What is still kept once some of those who leave were gone over.
use Rattle.std.proofs.Common.{not, filter, sym, ◌≡◌, ℕ, suc, zero, ◌<◌, List, [], ◌∷◌, length, take, get_or, Bool, true, false, cond, eqb, ◌&&◌, ◌||◌, Option, None, refl, ap, ◌∙◌, arith}
use Rattle.agent_talks.specs.declared.speaker.Speaker.{Speaker as HeldSpeaker}
use Rattle.agent_talks.specs.declared.speaker.Leaving.{Leaving}
use Rattle.agent_talks.specs.Kept.{leaves}
use Rattle.std.specs.List.{list_any}
use Rattle.agent_talks.proofs.PlaceLemmas.{all_but}
use Rattle.agent_talks.specs.Changes.{leaving_at, left_at, left_one}

left_step : {X : Type 0} (who : Leaving) (xs : List HeldSpeaker) (n : ℕ) (d : HeldSpeaker) (conv : ℕ) (start : Option X) → n < length xs → left_one who (get_or xs n d) conv (left_at who (take n xs) conv start) ≡ left_at who (take (suc n) xs) conv start
left_step who [] n d conv start lt = absurd (omega (arith, lt))
left_step who (x ∷ xs) zero d conv start lt = step (leaves who x && eqb x.conv conv)
  where
    step : (b : Bool) → cond b None start ≡ cond (b || false) None start
    step true = refl
    step false = refl
left_step who (x ∷ xs) (suc n) d conv start lt =
    step (leaves who x && eqb x.conv conv) (leaves who (get_or xs n d) && eqb (get_or xs n d).conv conv) (left_step who xs n d conv start (omega (arith, lt)))
  where
    step : (b c : Bool) → cond c None (cond (leaving_at who (take n xs) conv) None start) ≡ cond (leaving_at who (take (suc n) xs) conv) None start
        → cond c None (cond (b || leaving_at who (take n xs) conv) None start) ≡ cond (b || leaving_at who (take (suc n) xs) conv) None start
    step true true h = refl
    step true false h = refl
    step false c h = h

pub left_more : {X : Type 0} (who : Leaving) (xs : List HeldSpeaker) (n : ℕ) (d : HeldSpeaker) (conv : ℕ) (start old new : Option X) → n < length xs → old ≡ left_at who (take n xs) conv start → new ≡ left_one who (get_or xs n d) conv old → new ≡ left_at who (take (suc n) xs) conv start
left_more who xs n d conv start old new lt e f = f ∙ (ap (left_one who (get_or xs n d) conv) e ∙ left_step who xs n d conv start lt)

-- ---- who leaves, of some among whom are all that do

pub no_elements : (xs : List HeldSpeaker) → length xs ≡ 0 → xs ≡ []
no_elements [] e = refl
no_elements (s ∷ xs) e = absurd (omega (arith, e))

none_leaves : (who : Leaving) (xs : List HeldSpeaker) → filter (λ s. leaves who s) xs ≡ [] → list_any (λ s. leaves who s) xs ≡ false
none_leaves who [] e = refl
none_leaves who (s ∷ xs) e = step (leaves who s) e (none_leaves who xs)
  where
    step : (b : Bool) → cond b (s ∷ filter (λ t. leaves who t) xs) (filter (λ t. leaves who t) xs) ≡ [] → (filter (λ t. leaves who t) xs ≡ [] → list_any (λ t. leaves who t) xs ≡ false) → (b || list_any (λ t. leaves who t) xs) ≡ false
    step true e more = absurd cc
    step false e more = more e

pub all_stay_there : (who : Leaving) (xs : List HeldSpeaker) → filter (λ s. leaves who s) xs ≡ [] → filter (λ s. not (leaves who s)) xs ≡ xs
all_stay_there who xs e = all_but (λ s. leaves who s) xs (none_leaves who xs e)

leaving_filtered : (who : Leaving) (xs : List HeldSpeaker) (conv : ℕ) → leaving_at who (filter (λ s. leaves who s) xs) conv ≡ leaving_at who xs conv
leaving_filtered who [] conv = refl
leaving_filtered who (s ∷ xs) conv = step (leaves who s) refl (leaving_filtered who xs conv)
  where
    step : (b : Bool) → leaves who s ≡ b → leaving_at who (filter (λ t. leaves who t) xs) conv ≡ leaving_at who xs conv → leaving_at who (cond b (s ∷ filter (λ t. leaves who t) xs) (filter (λ t. leaves who t) xs)) conv ≡ ((b && eqb s.conv conv) || leaving_at who xs conv)
    step true is more = rw is (ap (λ (c : Bool). eqb s.conv conv || c) more)
    step false is more = more

pub leaving_same : (who : Leaving) (xs ys : List HeldSpeaker) (conv : ℕ) → filter (λ s. leaves who s) xs ≡ filter (λ s. leaves who s) ys → leaving_at who xs conv ≡ leaving_at who ys conv
leaving_same who xs ys conv e = sym (leaving_filtered who xs conv) ∙ (ap (λ (zs : List HeldSpeaker). leaving_at who zs conv) e ∙ leaving_filtered who ys conv)

pub left_same : {X : Type 0} (who : Leaving) (xs ys : List HeldSpeaker) (conv : ℕ) (o : Option X) → filter (λ s. leaves who s) xs ≡ filter (λ s. leaves who s) ys → left_at who xs conv o ≡ left_at who ys conv o
left_same who xs ys conv o e = ap (λ (b : Bool). cond b None o) (leaving_same who xs ys conv e)

pub left_none : {X : Type 0} (who : Leaving) (xs : List HeldSpeaker) (conv : ℕ) (o : Option X) → filter (λ s. leaves who s) xs ≡ [] → o ≡ left_at who xs conv o
left_none who xs conv o e = left_same who [] xs conv o (sym e)
