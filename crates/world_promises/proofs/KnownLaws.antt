-- What is known of the conversations of a network behind some acts; an act that concerns no agent keeps it.
use Rattle.std.proofs.Common.{◌≡◌, ℕ, ◌≤◌, ◌<◌, List, ◌∷◌, Bool, true, false, cond, eqb, Option, Some, None, refl, sym, ap, subst, ◌∙◌, arith}
use Rattle.std.specs.Str.{bytes_eq}
use Rattle.agent_history.specs.Conversations.{asker, conv_of, opened_talks}
use Rattle.agent_history.specs.Histories.{deeds}
use Rattle.world_history.specs.declared.question.Question.{Question}
use Rattle.world_history.specs.Acts.{Act, Talk, agent_of, is_node, talk_of}
use Rattle.world_history.specs.Turns.{Turn, asks, closes, hears, lets_open, misses, tells}
use Rattle.world_history.specs.Worlds.{call_behind, done_by, history, last_call, outstanding}
use Rattle.world_promises.specs.Agents.{AgentDoes, begun_in, conv_in}
use Rattle.world_promises.specs.Settings.{Place, place_of}
use Rattle.driven_agents.specs.Idle.{IsIdle}
use Rattle.world_promises.proofs.OtherTalks.{apart}
use Rattle.world_promises.proofs.FidLemmas.{not_same}
use Rattle.world_promises.specs.Worlds.{AreSeated, IsSeated}

pub record Known (acts : List Act) : Type 0 where
  pub seated : AreSeated acts
  -- the numbers of conversations are below the next one, and no two of an agent are the same
  pub below : (conv : List ℕ) (place : Place) → place_of acts conv ≡ Some place → place.number < opened_talks (deeds (history acts place.agent))
  pub apart : (one other : List ℕ) (p q : Place) → place_of acts one ≡ Some p → place_of acts other ≡ Some q → bytes_eq one other ≡ false → p.agent ≡ q.agent → eqb p.number q.number ≡ false
  -- the next ones have met nothing
  pub new : (node : List ℕ) (n : ℕ) → opened_talks (deeds (history acts node)) ≤ n → begun_in (history acts node) n ≡ None
  -- who wasn't opened asks nothing
  pub silent : (conv : List ℕ) → place_of acts conv ≡ None → outstanding acts conv ≡ None

-- ---- small steps

pub same_some : {X : Type 0} (a b : X) → Some a ≡ Some b → a ≡ b
same_some a b is = cc

pub none_some : {X : Type 0} (o : Option X) (x : X) → o ≡ None → o ≡ Some x → ⊥
none_some o x none some = let no_way : None ≡ Some x = sym none ∙ some in cc

pub not_both : (b : Bool) → b ≡ true → b ≡ false → ⊥
not_both b on off = let no_way : true ≡ false = sym on ∙ off in cc

pub unequal : (a b : ℕ) → a < b → eqb b a ≡ false
unequal a b below = apart a b (not_same a b below)

-- the questions of another conversation's turn
pub other_call : (conv : List ℕ) (turn : Turn) (raised : List Question) (call : Option ℕ) → bytes_eq (conv_in turn) conv ≡ false → call_behind conv turn raised call ≡ call
other_call conv (tells node line) raised call apart = refl
other_call conv (lets_open fid) raised call apart = refl
other_call conv (closes name fid) raised call apart = refl
other_call conv (asks name fid what) raised call apart = ap (λ b. cond b (last_call raised call) call) apart
other_call conv (hears name fid number bytes) raised call apart = ap (λ b. cond b (last_call raised None) call) apart
other_call conv (misses name fid number) raised call apart = ap (λ b. cond b (last_call raised None) call) apart

-- ---- acts that concern no agent

pub record IsSame (before : List Act) (act : Act) : Type 0 where
  pub goes : (node : List ℕ) → history (act ∷ before) node ≡ history before node
  pub calls : (name : List ℕ) → outstanding (act ∷ before) name ≡ outstanding before name
  pub stands : (name : List ℕ) → place_of (act ∷ before) name ≡ place_of before name
  pub nodes : (node : List ℕ) → is_node (act ∷ before) node ≡ is_node before node
  pub talks : (name : List ℕ) (t : Talk) → talk_of (act ∷ before) name ≡ Some t → talk_of before name ≡ Some t
  pub agents : (node : List ℕ) → agent_of (act ∷ before) node ≡ agent_of before node

same_seat : (before : List Act) (act : Act) → IsSame before act → Known before → (name : List ℕ) (t : Talk) (place : Place) → talk_of (act ∷ before) name ≡ Some t → place_of (act ∷ before) name ≡ Some place → IsSeated (act ∷ before) name t place
same_seat before act on k name t place is at =
    let s = k.seated.seats name t place (on.talks name t is) (sym (on.stands name) ∙ at) in
    let same = on.goes place.agent in
    record {
      node = s.node;
      agent = on.agents t.node ∙ s.agent;
      seat = ap (λ h. conv_of (deeds h) 0 t.fid) same ∙ s.seat;
      asks = λ call now. ap (λ h. asker (deeds h) call) same ∙ s.asks call (sym (on.calls name) ∙ now);
    }

pub same_known : (before : List Act) (act : Act) → IsSame before act → Known before → Known (act ∷ before)
same_known before act on k = record {
  seated = record { idle = λ node is. subst IsIdle (sym (ap (history (act ∷ before)) (on.agents node) ∙ on.goes (agent_of before node))) (k.seated.idle node (sym (on.nodes node) ∙ is)); seats = same_seat before act on k };
  below = λ name place at. subst (λ h. place.number < opened_talks (deeds h)) (sym (on.goes place.agent)) (k.below name place (sym (on.stands name) ∙ at));
  apart = λ one other p q at there names same. k.apart one other p q (sym (on.stands one) ∙ at) (sym (on.stands other) ∙ there) names same;
  new = λ node n next. subst (λ h. begun_in h n ≡ None) (sym (on.goes node)) (k.new node n (subst (λ h. opened_talks (deeds h) ≤ n) (on.goes node) next));
  silent = λ name none. on.calls name ∙ k.silent name (sym (on.stands name) ∙ none);
}

-- and does nothing to one
pub does_nothing : (before : List Act) (act : Act) → Known before → done_by before act ≡ None → AgentDoes before act
does_nothing before act k none = record {
  turns = λ d name p is at same. absurd (none_some (done_by before act) d none is);
  opens = λ node. k.new node (opened_talks (deeds (history before node))) (omega arith);
}
