-- A node that is made, and a line that is written to its ctl.
use Rattle.std.proofs.Common.{◌≡◌, ℕ, ◌≤◌, ◌<◌, List, [], ◌∷◌, Bool, true, false, cond, ◌||◌, not, Some, None, refl, sym, ap, subst, ◌∙◌, ◌⊎◌, inl, inr, arith}
use Rattle.std.specs.Str.{bytes_eq}
use Rattle.std.proofs.lemmas.Bool.{cases_Bool}
use Rattle.talks.specs.Standings.{standing}
use Rattle.agent_history.specs.Conversations.{asker, conv_of, opened_talks}
use Rattle.agent_history.specs.Histories.{History, deeds}
use Rattle.world_history.specs.Acts.{Act, Made, Restarted, Talk, Told, agent_of, is_node, talk_of}
use Rattle.world_history.specs.Driving.{new_node, told}
use Rattle.world_history.specs.Turns.{after, tells}
use Rattle.world_history.specs.Worlds.{Done, history, outstanding}
use Rattle.driven_agents.proofs.NamesLaws.{names_no_lines}
use Rattle.world_promises.specs.Agents.{AgentDoes, DoesTo, begun_in, conv_in}
use Rattle.world_promises.specs.Conditions.{AreDone}
use Rattle.world_promises.specs.Settings.{Place, place_of}
use Rattle.world_promises.proofs.LeaveLemmas.{events_leave}
use Rattle.world_promises.proofs.PlaceLemmas.{not_made, not_restarted}
use Rattle.world_promises.proofs.AgentNames.{other_agent}
use Rattle.world_promises.proofs.TalkLemmas.{restarted_talk}
use Rattle.driven_agents.specs.Idle.{IsIdle, Runs}
use Rattle.driven_agents.proofs.NewLaws.{IsNew, new_is}
use Rattle.world_promises.specs.Worlds.{AllRun, IsSeated}
use Rattle.world_promises.proofs.KnownLaws.{Known, same_some}
use Rattle.world_promises.proofs.RunLemmas.{itself, same_name}
use Rattle.world_promises.proofs.TurnFacts.{Behind, none_of, told_behind}

-- ---- a new agent

-- one that wasn't there is made, and no conversation is at it; all others stay
pub record IsNewAgent (before : List Act) (act : Act) (agent : List ℕ) : Type 0 where
  pub goes : (other : List ℕ) → history (act ∷ before) other ≡ cond (bytes_eq agent other) new_node (history before other)
  pub off : (conv : List ℕ) (p : Place) → place_of before conv ≡ Some p → bytes_eq agent p.agent ≡ false
  pub stands : (conv : List ℕ) → place_of (act ∷ before) conv ≡ place_of before conv
  pub calls : (conv : List ℕ) → outstanding (act ∷ before) conv ≡ outstanding before conv
  pub talks : (conv : List ℕ) (t : Talk) → talk_of (act ∷ before) conv ≡ Some t → (talk_of before conv ≡ Some t) × (agent_of (act ∷ before) t.node ≡ agent_of before t.node)
  -- a node has it now, or was there with the agent that it has
  pub nodes : (node : List ℕ) → is_node (act ∷ before) node ≡ true → (agent_of (act ∷ before) node ≡ agent) ⊎ ((is_node before node ≡ true) × (agent_of (act ∷ before) node ≡ agent_of before node))

module _ (before : List Act) (act : Act) (agent : List ℕ) (on : IsNewAgent before act agent) (k : Known before) (new : IsNew new_node) where
  off_agent : (other : List ℕ) → bytes_eq agent other ≡ false → history (act ∷ before) other ≡ history before other
  off_agent other apart = on.goes other ∙ ap (λ b. cond b new_node (history before other)) apart

  here_agent : history (act ∷ before) agent ≡ new_node
  here_agent = on.goes agent ∙ ap (λ b. cond b new_node (history before agent)) (itself agent)

  either_agent : (P : List ℕ → History → Type 0) → ((other : List ℕ) → bytes_eq agent other ≡ true → P other new_node) → ((other : List ℕ) → bytes_eq agent other ≡ false → P other (history before other)) → (other : List ℕ) → P other (history (act ∷ before) other)
  either_agent P mine theirs other = subst (P other) (sym (on.goes other)) (by_name (bytes_eq agent other) refl)
    where
      by_name : (b : Bool) → bytes_eq agent other ≡ b → P other (cond b new_node (history before other))
      by_name true same = mine other same
      by_name false apart = theirs other apart

  -- a conversation isn't at it
  off_place : (conv : List ℕ) (p : Place) → place_of before conv ≡ Some p → history (act ∷ before) p.agent ≡ history before p.agent
  off_place conv p at = off_agent p.agent (on.off conv p at)

  agent_seat : (conv : List ℕ) (t : Talk) (p : Place) → talk_of (act ∷ before) conv ≡ Some t → place_of (act ∷ before) conv ≡ Some p → IsSeated (act ∷ before) conv t p
  agent_seat conv t p is at =
      let was = on.talks conv t is in
      let there = sym (on.stands conv) ∙ at in
      let s = k.seated.seats conv t p was.0 there in
      let same = off_place conv p there in
      record {
        node = s.node;
        agent = was.1 ∙ s.agent;
        seat = ap (λ h. conv_of (deeds h) 0 t.fid) same ∙ s.seat;
        asks = λ call now. ap (λ h. asker (deeds h) call) same ∙ s.asks call (sym (on.calls conv) ∙ now);
      }

  idle_agent : (node : List ℕ) → is_node (act ∷ before) node ≡ true → IsIdle (history (act ∷ before) (agent_of (act ∷ before) node))
  idle_agent node is = elim (on.nodes node is) [
    | inl mine ↦ subst IsIdle (sym (ap (history (act ∷ before)) mine ∙ here_agent)) new.idle
    | inr was ↦ subst (λ n. IsIdle (history (act ∷ before) n)) (sym was.1)
        (either_agent (λ other h. IsIdle (history before other) → IsIdle h) (λ other same _. new.idle) (λ other apart idle. idle) (agent_of before node) (k.seated.idle node was.0))
  ]

  pub agent_known : Known (act ∷ before)
  agent_known = record {
    seated = record { idle = idle_agent; seats = agent_seat };
    below = λ conv p at. let there = sym (on.stands conv) ∙ at in subst (λ h. p.number < opened_talks (deeds h)) (sym (off_place conv p there)) (k.below conv p there);
    apart = λ one other p q at there names same. k.apart one other p q (sym (on.stands one) ∙ at) (sym (on.stands other) ∙ there) names same;
    new = either_agent (λ other h. (n : ℕ) → opened_talks (deeds h) ≤ n → begun_in h n ≡ None) (λ other same n low. ap (λ talk. (standing talk).begun) (new.talks n)) (λ other apart n low. k.new other n low);
    silent = λ conv none. on.calls conv ∙ k.silent conv (sym (on.stands conv) ∙ none);
  }

-- ---- a node

made_agent : (before : List Act) (name : List ℕ) → AreDone (Made name ∷ before) → IsNewAgent before (Made name) (agent_of before name)
made_agent before name done = record {
  goes = λ other. refl;
  off = λ conv p at. not_made before done.1 name conv p done.0.fits at;
  stands = λ conv. refl;
  calls = λ conv. refl;
  talks = λ conv t is. (is, refl);
  nodes = λ node is. by_name node is (cases_Bool (bytes_eq name node));
}
  where
    by_name : (node : List ℕ) → is_node (Made name ∷ before) node ≡ true → (bytes_eq name node ≡ true) ⊎ (bytes_eq name node ≡ false) → (agent_of before node ≡ agent_of before name) ⊎ ((is_node before node ≡ true) × (agent_of before node ≡ agent_of before node))
    by_name node is (inl same) = inl (ap (agent_of before) (sym (same_name name node same)))
    by_name node is (inr apart) = inr (ap (λ b. b || is_node before node) (sym apart) ∙ is, refl)

pub made_known : (before : List Act) (name : List ℕ) → AreDone (Made name ∷ before) → AllRun (Made name ∷ before) → Known before → Known (Made name ∷ before)
made_known before name done run k =
    agent_known before (Made name) (agent_of before name) (made_agent before name done) k
    (new_is (subst Runs (ap (λ b. cond b new_node (history before (agent_of before name))) (itself (agent_of before name))) (run (agent_of before name))))

-- ---- a restart

restarted_agent : (before : List Act) (name : List ℕ) → AreDone (Restarted name ∷ before) → IsNewAgent before (Restarted name) (agent_of (Restarted name ∷ before) name)
restarted_agent before name done = record {
  goes = λ other. refl;
  off = λ conv p at. not_restarted before done.1 name conv p at;
  stands = λ conv. refl;
  calls = λ conv. refl;
  talks = λ conv t is. let was = restarted_talk before name conv t done.1 is in (was.0, other_agent before name t.node (off_name t.node was.1));
  nodes = λ node is. by_name node is (cases_Bool (bytes_eq name node));
}
  where
    off : (b : Bool) → not b ≡ true → b ≡ false
    off true h = absurd cc
    off false h = refl

    turned : (node : List ℕ) → bytes_eq node name ≡ false → (bytes_eq name node ≡ true) ⊎ (bytes_eq name node ≡ false) → bytes_eq name node ≡ false
    turned node apart (inl same) = absurd (let no_way : false ≡ true = sym apart ∙ (ap (bytes_eq node) (same_name name node same) ∙ itself node) in cc)
    turned node apart (inr other) = other

    off_name : (node : List ℕ) → not (bytes_eq node name) ≡ true → bytes_eq name node ≡ false
    off_name node kept = turned node (off (bytes_eq node name) kept) (cases_Bool (bytes_eq name node))

    by_name : (node : List ℕ) → is_node before node ≡ true → (bytes_eq name node ≡ true) ⊎ (bytes_eq name node ≡ false) → (agent_of (Restarted name ∷ before) node ≡ agent_of (Restarted name ∷ before) name) ⊎ ((is_node before node ≡ true) × (agent_of (Restarted name ∷ before) node ≡ agent_of before node))
    by_name node is (inl same) = inl (ap (agent_of (Restarted name ∷ before)) (sym (same_name name node same)))
    by_name node is (inr apart) = inr (is, other_agent before name node apart)

pub restarted_known : (before : List Act) (name : List ℕ) → AreDone (Restarted name ∷ before) → AllRun (Restarted name ∷ before) → Known before → Known (Restarted name ∷ before)
restarted_known before name done run k =
    let agent = agent_of (Restarted name ∷ before) name in
    agent_known before (Restarted name) agent (restarted_agent before name done) k
    (new_is (subst Runs (ap (λ b. cond b new_node (history before agent)) (itself agent)) (run agent)))

-- ---- a line of ctl

module _ (before : List Act) (at line : List ℕ) (done : AreDone (Told at line ∷ before)) (k : Known before) (so : Behind none_of none_of (history before (agent_of before at)) (told line (history before (agent_of before at)))) where
  told_so : after (tells at line) (history before (agent_of before at)) ≡ told line (history before (agent_of before at))
  unfolding after
  told_so = refl

  here_is : (node : List ℕ) → bytes_eq (agent_of before at) node ≡ true → history (Told at line ∷ before) node ≡ told line (history before (agent_of before at))
  here_is node same =
      ap (history (Told at line ∷ before)) (sym (same_name (agent_of before at) node same))
      ∙ (ap (λ b. cond b (after (tells at line) (history before (agent_of before at))) (history before (agent_of before at))) (itself (agent_of before at)) ∙ told_so)

  there_is : (node : List ℕ) → bytes_eq (agent_of before at) node ≡ false → history (Told at line ∷ before) node ≡ history before node
  there_is node apart = ap (λ b. cond b (after (tells at line) (history before node)) (history before node)) apart

  by_node : (P : List ℕ → History → Type 0) → P (agent_of before at) (told line (history before (agent_of before at))) → ((node : List ℕ) → bytes_eq (agent_of before at) node ≡ false → P node (history before node)) → (node : List ℕ) → P node (history (Told at line ∷ before) node)
  by_node P mine theirs node = elim (cases_Bool (bytes_eq (agent_of before at) node)) [
    | inl same ↦ subst (λ n. P n (history (Told at line ∷ before) n)) (same_name (agent_of before at) node same) (subst (P (agent_of before at)) (sym (here_is (agent_of before at) (itself (agent_of before at)))) mine)
    | inr apart ↦ subst (P node) (sym (there_is node apart)) (theirs node apart)
  ]

  opened_same : (node : List ℕ) → opened_talks (deeds (history (Told at line ∷ before) node)) ≡ opened_talks (deeds (history before node))
  opened_same = by_node (λ node h. opened_talks (deeds h) ≡ opened_talks (deeds (history before node))) so.opened (λ node apart. refl)

  begun_same : (node : List ℕ) (n : ℕ) → begun_in (history (Told at line ∷ before) node) n ≡ begun_in (history before node) n
  begun_same = by_node (λ node h. (n : ℕ) → begun_in h n ≡ begun_in (history before node) n) (λ n. ap (λ h. begun_in h n) (sym told_so) ∙ events_leave n (tells at line) (history before (agent_of before at)) (names_no_lines before (agent_of before at)) tt) (λ node apart n. refl)

  told_seat : (conv : List ℕ) (t : Talk) (p : Place) → talk_of before conv ≡ Some t → place_of before conv ≡ Some p → IsSeated (Told at line ∷ before) conv t p
  told_seat conv t p is place =
      let s = k.seated.seats conv t p is place in
      record {
        node = s.node;
        agent = s.agent;
        seat = by_node (λ node h. conv_of (deeds h) 0 t.fid ≡ conv_of (deeds (history before node)) 0 t.fid) (so.others t.fid refl) (λ node apart. refl) p.agent ∙ s.seat;
        asks = λ call now. by_node (λ node h. asker (deeds (history before node)) call ≡ Some p.number → asker (deeds h) call ≡ Some p.number) (λ was. so.askers call p.number was refl) (λ node apart was. was) p.agent (s.asks call now);
      }

  told_then : Known (Told at line ∷ before)
  told_then = record {
    seated = record { idle = λ node is. by_node (λ agent h. IsIdle (history before agent) → IsIdle h) (λ _. so.idle) (λ agent apart idle. idle) (agent_of before node) (k.seated.idle node is); seats = told_seat };
    below = λ conv p place. subst (λ n. p.number < n) (sym (opened_same p.agent)) (k.below conv p place);
    apart = k.apart;
    new = λ node n low. begun_same node n ∙ k.new node n (subst (λ m. m ≤ n) (opened_same node) low);
    silent = k.silent;
  }

told_runs : (before : List Act) (at line : List ℕ) → AllRun (Told at line ∷ before) → Runs (told line (history before (agent_of before at)))
unfolding after
told_runs before at line run = subst Runs (ap (λ b. cond b (after (tells at line) (history before (agent_of before at))) (history before (agent_of before at))) (itself (agent_of before at))) (run (agent_of before at))

pub told_known : (before : List Act) (at line : List ℕ) → AreDone (Told at line ∷ before) → AllRun (Told at line ∷ before) → Known before → Known (Told at line ∷ before)
told_known before at line done run k = told_then before at line done k (told_behind line (history before (agent_of before at)) (k.seated.idle at done.0.named) (told_runs before at line run))

does_unit : (b : Bool) (number : ℕ) (at line : List ℕ) (h : History) → DoesTo b number (tells at line) h
does_unit true number at line h = tt
does_unit false number at line h = tt

pub told_does : (before : List Act) (at line : List ℕ) → Known before → AgentDoes before (Told at line)
told_does before at line k = record {
  turns = λ d name p is place same. subst (λ (d : Done). DoesTo (bytes_eq (conv_in d.turn) name) p.number d.turn (history before p.agent)) (same_some (record { agent = agent_of before at; turn = tells at line }) d is) (does_unit (bytes_eq [] name) p.number at line (history before p.agent));
  opens = λ n. k.new n (opened_talks (deeds (history before n))) (omega arith);
}
