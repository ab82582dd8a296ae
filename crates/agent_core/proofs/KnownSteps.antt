-- What is known of the connections where what is kept of one was changed.
use Rattle.std.proofs.Common.{◌≡◌, ℕ, Bool, true, false, cond, eqb, ltb, Equal, Greater, Option, Some, None, refl, subst, ap, ◌∙◌, inl, inr, arith}
use Rattle.std.specs.Ordering.{nat_cmp, is_eq}
use Rattle.std.specs.BTreeMap.{is_at}
use Rattle.std.proofs.lemmas.Bool.{cases_Bool, eqb-true, ne_eqb, ltb-true}
use Rattle.agent_requests.specs.declared.connection.Connection.{Connection}
use Rattle.agent_core.specs.Events.{Live, is_hung_at, known_by}

at_same : (a b : ℕ) → is_at (nat_cmp a) b ≡ eqb a b
at_same a b = elim (cases_Bool (ltb a b)) [
  | inl below ↦ rw (below, ne_eqb a b (λ e. omega (arith, ltb-true a b below))) refl
  | inr not_below ↦ rw not_below (chosen (eqb a b))
]
  where
    chosen : (t : Bool) → is_eq (cond t Equal Greater) ≡ t
    chosen true = refl
    chosen false = refl

pub gone_told : (gone : Bool) (o : Option Connection) → gone ≡ is_hung_at (known_by gone o)
gone_told true o = refl
gone_told false None = refl
gone_told false (Some c) = refl

pub not_gone : (gone : Bool) (o : Option Connection) → is_hung_at (known_by gone o) ≡ false → gone ≡ false
not_gone gone o e = gone_told gone o ∙ e

pub live_known : (gone : Bool) (o : Option Connection) (c : Connection) → gone ≡ false → o ≡ Some c → known_by gone o ≡ Live c
live_known gone o c stays is = ap (λ (b : Bool). known_by b o) stays ∙ ap (λ (p : Option Connection). known_by false p) is

-- what is found where the value of one number was written
pub written : (conn : ℕ) (gone : ℕ → Bool) (old new : ℕ → Option Connection) (d : Connection) → gone conn ≡ false → ((q : ℕ) → new q ≡ cond (is_at (nat_cmp conn) q) (Some d) (old q))
    → (q : ℕ) → known_by (gone q) (new q) ≡ cond (eqb conn q) (Live d) (known_by (gone q) (old q))
written conn gone old new d stays updates q = elim (cases_Bool (eqb conn q)) [
  | inl is ↦
      let here : gone q ≡ false = subst (λ (n : ℕ). gone n ≡ false) (eqb-true conn q is) stays in
      let found : new q ≡ Some d = updates q ∙ rw (at_same conn q, is) refl in
      live_known (gone q) (new q) d here found ∙ rw is refl
  | inr is ↦
      let found : new q ≡ old q = updates q ∙ rw (at_same conn q, is) refl in
      ap (λ (o : Option Connection). known_by (gone q) o) found ∙ rw is refl
]
