-- The conversations that keep a connection, after each change.
use Rattle.std.proofs.Common.{◌≡◌, ℕ, ◌+◌, ◌≤◌, List, [], ◌∷◌, ◌++◌, length, Bool, true, false, cond, eqb, not, ◌&&◌, ◌||◌, refl, ap, ◌∙◌, arith}
use Rattle.std.proofs.lemmas.Bool.{eq-eqb, eqb-true, false≢true}
use Rattle.agent_history.specs.Conversations.{Drop}
use Rattle.agent_talks.specs.Calls.{Calls, begun, ended, ended_if, is_kept, others}

pub same : (n : ℕ) → eqb n n ≡ true
same n = eq-eqb n n refl

pub and_off : (b : Bool) → (b && false) ≡ false
and_off true = refl
and_off false = refl

pub and_on : (b : Bool) → (b && true) ≡ b
and_on true = refl
and_on false = refl

or_off : (b : Bool) → (b || false) ≡ b
or_off true = refl
or_off false = refl

-- ---- without one

pub without_self : (kept : List ℕ) (conv : ℕ) → is_kept (others conv kept) conv ≡ false
without_self [] conv = refl
without_self (n ∷ kept) conv = step (eqb n conv) refl (without_self kept conv)
  where
    step : (b : Bool) → eqb n conv ≡ b → is_kept (others conv kept) conv ≡ false → is_kept (cond (not b) (n ∷ others conv kept) (others conv kept)) conv ≡ false
    step true e more = more
    step false e more = rw e more

pub without_others : (kept : List ℕ) (conv q : ℕ) → eqb conv q ≡ false → is_kept (others conv kept) q ≡ is_kept kept q
without_others [] conv q apart = refl
without_others (n ∷ kept) conv q apart = step (eqb n conv) refl (without_others kept conv q apart)
  where
    step : (b : Bool) → eqb n conv ≡ b → is_kept (others conv kept) q ≡ is_kept kept q → is_kept (cond (not b) (n ∷ others conv kept) (others conv kept)) q ≡ (eqb n q || is_kept kept q)
    step true e more = let off : eqb n q ≡ false = ap (λ (m : ℕ). eqb m q) (eqb-true n conv e) ∙ apart in more ∙ rw off refl
    step false e more = ap (λ (b : Bool). eqb n q || b) more

pub fewer : (kept : List ℕ) (conv : ℕ) → length (others conv kept) ≤ length kept
fewer [] conv = omega arith
fewer (n ∷ kept) conv = step (eqb n conv) (fewer kept conv)
  where
    step : (b : Bool) → length (others conv kept) ≤ length kept → length (cond (not b) (n ∷ others conv kept) (others conv kept)) ≤ length (n ∷ kept)
    step true le = omega (arith, le)
    step false le = omega (arith, le)

pub one_fewer : (kept : List ℕ) (conv : ℕ) → is_kept kept conv ≡ true → length (others conv kept) + 1 ≤ length kept
one_fewer [] conv is = absurd (false≢true is)
one_fewer (n ∷ kept) conv is = step (eqb n conv) is (fewer kept conv) (one_fewer kept conv)
  where
    step : (b : Bool) → (b || is_kept kept conv) ≡ true → length (others conv kept) ≤ length kept → (is_kept kept conv ≡ true → length (others conv kept) + 1 ≤ length kept) → length (cond (not b) (n ∷ others conv kept) (others conv kept)) + 1 ≤ length (n ∷ kept)
    step true is le more = omega (arith, le)
    step false is le more = let less : length (others conv kept) + 1 ≤ length kept = more is in omega (arith, less)

-- the same of lists whose lengths are known
pub one_fewer_in : (old new : List ℕ) (conv before after : ℕ) → before ≡ length old → after ≡ length new → new ≡ others conv old → is_kept old conv ≡ true → after + 1 ≤ before
one_fewer_in old new conv before after e f same is =
    let less : length (others conv old) + 1 ≤ length old = one_fewer old conv is in
    let count : length new ≡ length (others conv old) = ap (λ (ns : List ℕ). length ns) same in
    omega (arith, e, f, less, count)

-- ---- with one more

pub with_last : (kept : List ℕ) (conv q : ℕ) → is_kept (kept ++ conv ∷ []) q ≡ (is_kept kept q || eqb conv q)
with_last [] conv q = or_off (eqb conv q)
with_last (n ∷ kept) conv q = ap (λ (b : Bool). eqb n q || b) (with_last kept conv q) ∙ swap (eqb n q) (is_kept kept q) (eqb conv q)
  where
    swap : (a b c : Bool) → (a || (b || c)) ≡ ((a || b) || c)
    swap true b c = refl
    swap false b c = refl

pub begun_self : (c : Calls) (conv : ℕ) → is_kept (begun conv c).kept conv ≡ true
begun_self c conv = step (is_kept c.kept conv) refl
  where
    step : (b : Bool) → is_kept c.kept conv ≡ b → is_kept (cond b c (record { kept = c.kept ++ conv ∷ []; drops = c.drops })).kept conv ≡ true
    step true e = e
    step false e = with_last c.kept conv conv ∙ rw (e, same conv) refl

pub begun_others : (c : Calls) (conv q : ℕ) → eqb conv q ≡ false → is_kept (begun conv c).kept q ≡ is_kept c.kept q
begun_others c conv q apart = step (is_kept c.kept conv)
  where
    step : (b : Bool) → is_kept (cond b c (record { kept = c.kept ++ conv ∷ []; drops = c.drops })).kept q ≡ is_kept c.kept q
    step true = refl
    step false = with_last c.kept conv q ∙ rw apart (or_off (is_kept c.kept q))

pub begun_drops : (c : Calls) (conv : ℕ) → (begun conv c).drops ≡ c.drops
begun_drops c conv = step (is_kept c.kept conv)
  where
    step : (b : Bool) → (cond b c (record { kept = c.kept ++ conv ∷ []; drops = c.drops })).drops ≡ c.drops
    step true = refl
    step false = refl

-- ---- one gives its own up

abbrev given : ℕ → ℕ → Calls → Calls
given conv behind c = record { kept = others conv c.kept; drops = c.drops ++ record { conv = conv; behind = behind } ∷ [] }

pub ended_self : (c : Calls) (conv behind : ℕ) → is_kept (ended conv behind c).kept conv ≡ false
ended_self c conv behind = step (is_kept c.kept conv) refl
  where
    step : (b : Bool) → is_kept c.kept conv ≡ b → is_kept (cond b (given conv behind c) c).kept conv ≡ false
    step true e = without_self c.kept conv
    step false e = e

pub ended_others : (c : Calls) (conv behind q : ℕ) → eqb conv q ≡ false → is_kept (ended conv behind c).kept q ≡ is_kept c.kept q
ended_others c conv behind q apart = step (is_kept c.kept conv)
  where
    step : (b : Bool) → is_kept (cond b (given conv behind c) c).kept q ≡ is_kept c.kept q
    step true = without_others c.kept conv q apart
    step false = refl

pub ended_drops : (c : Calls) (conv behind : ℕ) → (ended conv behind c).drops ≡ cond (is_kept c.kept conv) (c.drops ++ record { conv = conv; behind = behind } ∷ []) c.drops
ended_drops c conv behind = step (is_kept c.kept conv)
  where
    step : (b : Bool) → (cond b (given conv behind c) c).drops ≡ cond b (c.drops ++ record { conv = conv; behind = behind } ∷ []) c.drops
    step true = refl
    step false = refl

-- where it keeps none, nothing changes
pub ended_none : (c : Calls) (conv behind : ℕ) (over : Bool) → (over ≡ true → is_kept c.kept conv ≡ false) → ended_if over conv behind c ≡ c
ended_none c conv behind false none = refl
ended_none c conv behind true none = rw (none refl) refl

-- at most one is given up
longer : (ds : List Drop) (d : Drop) → length (ds ++ d ∷ []) ≤ length ds + 1
longer [] d = omega arith
longer (x ∷ ds) d = let more : length (ds ++ d ∷ []) ≤ length ds + 1 = longer ds d in omega (arith, more)

pub one_more : (c : Calls) (conv behind : ℕ) → length (ended conv behind c).drops ≤ length c.drops + 1
one_more c conv behind = rw (ended_drops c conv behind) (step (is_kept c.kept conv))
  where
    step : (b : Bool) → length (cond b (c.drops ++ record { conv = conv; behind = behind } ∷ []) c.drops) ≤ length c.drops + 1
    step true = longer c.drops (record { conv = conv; behind = behind })
    step false = omega arith
