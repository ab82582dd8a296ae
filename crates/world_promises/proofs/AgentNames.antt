-- Agents of nodes by their names: which there were, and that one which is made now wasn't among them.
use Rattle.std.proofs.Common.{◌≡◌, ℕ, ◌+◌, ◌≤◌, List, [], ◌∷◌, Bool, true, false, cond, eqb, ◌||◌, ◌&&◌, refl, sym, ap, subst, ◌∙◌, inl, inr, arith}
use Rattle.std.specs.Str.{bytes_eq}
use Rattle.std.proofs.lemmas.Bool.{and_parts, cases_Bool, cond-true, cond-false, eqb-true, or_parts}
use Rattle.std.proofs.lemmas.Slice.Eq.{bytes_eq-Decides}
use Rattle.world_history.specs.Acts.{Act, Made, Restarted, agent_of, has_name, is_node, nodes, restarts}
use Rattle.world_history.proofs.AgentLemmas.{agents_apart}
use Rattle.world_promises.specs.Conditions.{AreDone}

same_name : (a b : List ℕ) → bytes_eq a b ≡ true → a ≡ b
same_name a b is = (bytes_eq-Decides a b).0 is

itself : (a : List ℕ) → bytes_eq a a ≡ true
itself a = (bytes_eq-Decides a a).1 refl

-- the agents that nodes had, those of now among them
abbrev pub agents : List Act → List (List ℕ)
agents [] = []
agents (Made node ∷ before) = agent_of before node ∷ agents before
agents (Restarted node ∷ before) = agent_of (Restarted node ∷ before) node ∷ agents before
agents (act ∷ before) = agents before

abbrev pub is_agent : List Act → List ℕ → Bool
is_agent acts agent = has_name agent (agents acts)

or_first : (a b : Bool) → a ≡ true → (a || b) ≡ true
or_first true b is = refl
or_first false b is = absurd cc

or_more : (a b : Bool) → b ≡ true → (a || b) ≡ true
or_more true b is = refl
or_more false b is = is

-- ---- a restart

restarted_more : (before : List Act) (node : List ℕ) → restarts (Restarted node ∷ before) node ≡ restarts before node + 1
restarted_more before node = cond-true _ _ _ (itself node)

restarted_least : (before : List Act) (node other : List ℕ) → restarts before other ≤ restarts (Restarted node ∷ before) other
restarted_least before node other = by_name (bytes_eq node other) (restarts before other)
  where
    by_name : (b : Bool) (n : ℕ) → n ≤ cond b (n + 1) n
    by_name true n = omega arith
    by_name false n = omega arith

pub other_agent : (before : List Act) (node other : List ℕ) → bytes_eq node other ≡ false → agent_of (Restarted node ∷ before) other ≡ agent_of before other
other_agent before node other apart = ap (λ (n : ℕ). n ∷ other) (cond-false _ _ _ apart)

-- ---- agents are of nodes, and are no newer than these' newest

pub record IsOld (acts : List Act) (count : ℕ) (node : List ℕ) : Type 0 where
  pub low : count ≤ restarts acts node
  pub made : is_node acts node ≡ true

-- the one that is made, or one of before
old_made : (before : List Act) (name : List ℕ) (count : ℕ) (node : List ℕ) → bytes_eq (agent_of before name) (count ∷ node) ≡ true → IsOld (Made name ∷ before) count node
old_made before name count node same =
    let parts = and_parts (eqb (restarts before name) count) (bytes_eq name node) same in
    let named = same_name name node parts.1 in
    let is : restarts before node ≡ count = ap (restarts before) (sym named) ∙ eqb-true (restarts before name) count parts.0 in
    record { low = omega (arith, is); made = or_first (bytes_eq name node) (is_node before node) parts.1 }

old_restarted : (before : List Act) (name : List ℕ) (count : ℕ) (node : List ℕ) → is_node before name ≡ true → bytes_eq (agent_of (Restarted name ∷ before) name) (count ∷ node) ≡ true → IsOld (Restarted name ∷ before) count node
old_restarted before name count node made same =
    let parts = and_parts (eqb (restarts (Restarted name ∷ before) name) count) (bytes_eq name node) same in
    let named = same_name name node parts.1 in
    let is : restarts (Restarted name ∷ before) node ≡ count = ap (restarts (Restarted name ∷ before)) (sym named) ∙ eqb-true (restarts (Restarted name ∷ before) name) count parts.0 in
    record { low = omega (arith, is); made = ap (is_node before) (sym named) ∙ made }

pub old : (acts : List Act) → AreDone acts → (count : ℕ) (node : List ℕ) → is_agent acts (count ∷ node) ≡ true → IsOld acts count node
old [] done count node is = absurd cc
old (Made name ∷ before) done count node is = elim (cases_Bool (bytes_eq (agent_of before name) (count ∷ node))) [
  | inl same ↦ old_made before name count node same
  | inr other ↦ (
      let o = old before done.1 count node (ap (λ (b : Bool). b || is_agent before (count ∷ node)) (sym other) ∙ is) in
      record { low = o.low; made = or_more (bytes_eq name node) (is_node before node) o.made })
]
old (Restarted name ∷ before) done count node is = elim (cases_Bool (bytes_eq (agent_of (Restarted name ∷ before) name) (count ∷ node))) [
  | inl same ↦ old_restarted before name count node done.0.named same
  | inr other ↦ (
      let o = old before done.1 count node (ap (λ (b : Bool). b || is_agent before (count ∷ node)) (sym other) ∙ is) in
      record { low = omega (arith, o.low, restarted_least before name node); made = o.made })
]
old (act ∷ before) done count node is = moved (old before done.1 count node is)
  where
    moved : IsOld before count node → IsOld (act ∷ before) count node
    moved o = record { low = o.low; made = o.made }

-- ---- the agent of a node that was made is one

pub present : (acts : List Act) → AreDone acts → (node : List ℕ) → is_node acts node ≡ true → is_agent acts (agent_of acts node) ≡ true
present [] done node is = absurd cc
present (Made name ∷ before) done node is = elim (cases_Bool (bytes_eq name node)) [
  | inl same ↦ or_first _ _ (agents_apart before name node ∙ same)
  | inr other ↦ or_more _ _ (present before done.1 node (ap (λ (b : Bool). b || is_node before node) (sym other) ∙ is))
]
present (Restarted name ∷ before) done node is = elim (cases_Bool (bytes_eq name node)) [
  | inl same ↦ or_first _ _ (agents_apart (Restarted name ∷ before) name node ∙ same)
  | inr other ↦ or_more _ _ (ap (is_agent before) (other_agent before name node other) ∙ present before done.1 node is)
]
present (act ∷ before) done node is = present before done.1 node is

-- ---- one that is made now wasn't there

not_true : (b : Bool) → (b ≡ true → ⊥) → b ≡ false
not_true true never = absurd (never refl)
not_true false never = refl

pub new_made : (before : List Act) → AreDone before → (name : List ℕ) → is_node before name ≡ false → is_agent before (agent_of before name) ≡ false
new_made before done name off = not_true (is_agent before (agent_of before name)) (λ is. let o = old before done (restarts before name) name is in let no_way : false ≡ true = sym off ∙ o.made in cc)

pub new_restarted : (before : List Act) → AreDone before → (name : List ℕ) → is_agent before (agent_of (Restarted name ∷ before) name) ≡ false
new_restarted before done name = not_true (is_agent before (agent_of (Restarted name ∷ before) name)) (λ is.
    let o = old before done (restarts (Restarted name ∷ before) name) name is in absurd (omega (arith, o.low, restarted_more before name)))

-- agents of which one was there, and the other wasn't, are two
pub apart : (acts : List Act) (one other : List ℕ) → is_agent acts one ≡ true → is_agent acts other ≡ false → bytes_eq one other ≡ false
apart acts one other on off = not_true (bytes_eq one other) (λ same. let no_way : false ≡ true = sym off ∙ (ap (is_agent acts) (sym (same_name one other same)) ∙ on) in cc)
