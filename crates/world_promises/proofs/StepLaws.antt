-- An act of a conversation keeps what is known of all of them; and it does to those of its node what a turn does.
use Rattle.std.proofs.Common.{◌≡◌, ℕ, ◌≤◌, ◌<◌, List, ◌∷◌, Bool, true, false, cond, eqb, Some, None, refl, sym, ap, subst, ◌∙◌, ◌⊎◌, inl, inr, arith}
use Rattle.std.specs.Str.{bytes_eq}
use Rattle.std.proofs.lemmas.Bool.{cases_Bool, eqb-true, eq-eqb}
use Rattle.agent_history.specs.Conversations.{asker, conv_of, opened_talks}
use Rattle.agent_history.specs.Histories.{History, deeds}
use Rattle.world_history.specs.Acts.{Act, Talk, agent_of, is_node, talk_of}
use Rattle.world_history.specs.Turns.{Turn, after, turn_questions}
use Rattle.world_history.specs.Worlds.{Done, call_behind, call_by, done_by, history, history_by, on_talk, outstanding}
use Rattle.driven_agents.proofs.NamesLaws.{names_no_lines}
use Rattle.world_promises.specs.Agents.{AgentDoes, DoesTo, EventsLeave, begun_in, conv_in}
use Rattle.world_promises.specs.Conditions.{AreDone}
use Rattle.world_promises.specs.Settings.{Place, place_of}
use Rattle.world_promises.proofs.LeaveLemmas.{events_leave}
use Rattle.world_promises.proofs.PlaceLemmas.{placed}
use Rattle.driven_agents.specs.Idle.{IsIdle}
use Rattle.world_promises.specs.Worlds.{IsSeated}
use Rattle.world_promises.proofs.KnownLaws.{IsSame, Known, none_some, not_both, other_call, same_known, same_some, unequal}
use Rattle.world_promises.proofs.RunLemmas.{itself, same_name}
use Rattle.world_promises.proofs.TurnFacts.{TurnSo}

-- ---- an act of a conversation

-- of a turn of the conversation of a fid it is known whose questions end and which fids are gone
pub record OnTalk (before : List Act) (act : Act) (conv : List ℕ) (turn : ℕ → Turn) (ends gone : ℕ → ℕ → Bool) : Type 0 where
  pub does : done_by before act ≡ on_talk before (talk_of before conv) turn
  pub goes : (node : List ℕ) → history (act ∷ before) node ≡ history_by (on_talk before (talk_of before conv) turn) node (history before node)
  pub calls : (name : List ℕ) → outstanding (act ∷ before) name ≡ call_by before name (on_talk before (talk_of before conv) turn) (outstanding before name)
  pub stands : (name : List ℕ) → place_of (act ∷ before) name ≡ place_of before name
  pub nodes : (node : List ℕ) → is_node (act ∷ before) node ≡ is_node before node
  pub agents : (node : List ℕ) → agent_of (act ∷ before) node ≡ agent_of before node
  pub of_conv : (fid : ℕ) → conv_in (turn fid) ≡ conv
  pub talks : (name : List ℕ) (t : Talk) → talk_of (act ∷ before) name ≡ Some t → talk_of before name ≡ Some t
  -- it is open behind the act only if its fid isn't gone
  pub stays : (t : Talk) → talk_of (act ∷ before) conv ≡ Some t → gone t.fid t.fid ≡ false
  pub ends_own : (number other : ℕ) → eqb other number ≡ false → ends number other ≡ false
  pub gone_own : (fid other : ℕ) → eqb other fid ≡ false → gone fid other ≡ false

-- ---- where it isn't open

is_same : (before : List Act) (act : Act) (conv : List ℕ) (turn : ℕ → Turn) (ends gone : ℕ → ℕ → Bool) → OnTalk before act conv turn ends gone → talk_of before conv ≡ None → IsSame before act
is_same before act conv turn ends gone on none = record {
  goes = λ node. on.goes node ∙ ap (λ o. history_by (on_talk before o turn) node (history before node)) none;
  calls = λ name. on.calls name ∙ ap (λ o. call_by before name (on_talk before o turn) (outstanding before name)) none;
  stands = on.stands;
  nodes = on.nodes;
  talks = on.talks;
  agents = on.agents;
}

pub closed_known : (before : List Act) (act : Act) (conv : List ℕ) (turn : ℕ → Turn) (ends gone : ℕ → ℕ → Bool) → OnTalk before act conv turn ends gone → Known before → talk_of before conv ≡ None → Known (act ∷ before)
closed_known before act conv turn ends gone on k none = same_known before act (is_same before act conv turn ends gone on none) k

-- ---- where it is

-- what is known of it
pub record IsOpen (before : List Act) (conv : List ℕ) (t : Talk) (place : Place) : Type 0 where
  pub is : talk_of before conv ≡ Some t
  pub at : place_of before conv ≡ Some place
  pub agent : place.agent ≡ agent_of before t.node

pub is_open : (before : List Act) → AreDone before → (conv : List ℕ) (t : Talk) → talk_of before conv ≡ Some t → (place : Place) × IsOpen before conv t place
is_open before done conv t is = let p = placed before done conv t is in (p.place, record { is = is; at = p.is; agent = p.agent })

module _ (before : List Act) (act : Act) (conv : List ℕ) (turn : ℕ → Turn) (ends gone : ℕ → ℕ → Bool) (on : OnTalk before act conv turn ends gone) (k : Known before)
    (t : Talk) (place : Place) (opened : IsOpen before conv t place) (so : TurnSo conv (turn t.fid) t.fid place.number (ends place.number) (gone t.fid) (history before place.agent)) where
  done_is : on_talk before (talk_of before conv) turn ≡ Some (record { agent = place.agent; turn = turn t.fid })
  done_is = ap (λ o. on_talk before o turn) opened.is ∙ ap (λ (n : List ℕ). Some (record { agent = n; turn = turn t.fid })) (sym opened.agent)

  goes_by : (node : List ℕ) → history (act ∷ before) node ≡ cond (bytes_eq place.agent node) (after (turn t.fid) (history before node)) (history before node)
  goes_by node = on.goes node ∙ ap (λ o. history_by o node (history before node)) done_is

  calls_by : (name : List ℕ) → outstanding (act ∷ before) name ≡ call_behind name (turn t.fid) (turn_questions (turn t.fid) (history before place.agent)) (outstanding before name)
  calls_by name = on.calls name ∙ ap (λ o. call_by before name o (outstanding before name)) done_is

  -- on its node, or on another
  on_node : (node : List ℕ) → bytes_eq place.agent node ≡ true → history (act ∷ before) node ≡ after (turn t.fid) (history before place.agent)
  on_node node same = goes_by node ∙ (ap (λ b. cond b (after (turn t.fid) (history before node)) (history before node)) same ∙ ap (λ n. after (turn t.fid) (history before n)) (sym (same_name place.agent node same)))

  off_node : (node : List ℕ) → bytes_eq place.agent node ≡ false → history (act ∷ before) node ≡ history before node
  off_node node other = goes_by node ∙ ap (λ b. cond b (after (turn t.fid) (history before node)) (history before node)) other

  -- whatever is so of its node's history and the others'
  either_node : (P : List ℕ → History → Type 0) → P place.agent (after (turn t.fid) (history before place.agent)) → ((node : List ℕ) → bytes_eq place.agent node ≡ false → P node (history before node)) → (node : List ℕ) → P node (history (act ∷ before) node)
  either_node P mine theirs node = elim (cases_Bool (bytes_eq place.agent node)) [
    | inl same ↦ subst (λ n. P n (history (act ∷ before) n)) (same_name place.agent node same) (subst (P place.agent) (sym (on_node place.agent (itself place.agent))) mine)
    | inr other ↦ subst (P node) (sym (off_node node other)) (theirs node other)
  ]

  idle_then : (node : List ℕ) → is_node (act ∷ before) node ≡ true → IsIdle (history (act ∷ before) (agent_of (act ∷ before) node))
  idle_then node is = subst (λ n. IsIdle (history (act ∷ before) n)) (sym (on.agents node))
      (either_node (λ agent h. IsIdle (history before agent) → IsIdle h) (λ _. so.behind.idle) (λ agent other idle. idle) (agent_of before node) (k.seated.idle node (sym (on.nodes node) ∙ is)))

  opened_same : (node : List ℕ) → opened_talks (deeds (history (act ∷ before) node)) ≡ opened_talks (deeds (history before node))
  opened_same = either_node (λ node h. opened_talks (deeds h) ≡ opened_talks (deeds (history before node))) so.behind.opened (λ node other. refl)

  new_then : (node : List ℕ) (n : ℕ) → opened_talks (deeds (history before node)) ≤ n → begun_in (history (act ∷ before) node) n ≡ None
  new_then = either_node (λ node h. (n : ℕ) → opened_talks (deeds (history before node)) ≤ n → begun_in h n ≡ None)
      (λ n next.
      let mine = k.below conv place opened.at in
      events_leave n (turn t.fid) (history before place.agent) (names_no_lines before place.agent) (so.leaves n (unequal place.number n (omega arith))) ∙ k.new place.agent n next)
      (λ node other n next. k.new node n next)

  -- another conversation is asked nothing
  other_calls : (name : List ℕ) → bytes_eq conv name ≡ false → outstanding (act ∷ before) name ≡ outstanding before name
  other_calls name apart = calls_by name ∙ other_call name (turn t.fid) (turn_questions (turn t.fid) (history before place.agent)) (outstanding before name) (ap (λ n. bytes_eq n name) (on.of_conv t.fid) ∙ apart)

  silent_then : (name : List ℕ) → place_of before name ≡ None → outstanding (act ∷ before) name ≡ None
  silent_then name none = elim (cases_Bool (bytes_eq conv name)) [
    | inl same ↦ absurd (none_some (place_of before conv) place (ap (place_of before) (same_name conv name same) ∙ none) opened.at)
    | inr other ↦ other_calls name other ∙ k.silent name none
  ]

  -- ---- seats

  -- on another node
  far_seat : (name : List ℕ) (u : Talk) (p : Place) → IsSeated before name u p → bytes_eq place.agent p.agent ≡ false → bytes_eq conv name ≡ false → IsSeated (act ∷ before) name u p
  far_seat name u p s other names = record {
    node = s.node;
    agent = on.agents u.node ∙ s.agent;
    seat = ap (λ h. conv_of (deeds h) 0 u.fid) (off_node p.agent other) ∙ s.seat;
    asks = λ call now. ap (λ h. asker (deeds h) call) (off_node p.agent other) ∙ s.asks call (sym (other_calls name names) ∙ now);
  }

  -- another one on its node
  seat_now : (u : Talk) (p : Place) → bytes_eq place.agent p.agent ≡ true → conv_of (deeds (history before p.agent)) 0 u.fid ≡ Some p.number → conv_of (deeds (history before place.agent)) 0 u.fid ≡ Some p.number
  seat_now u p same seat = ap (λ n. conv_of (deeds (history before n)) 0 u.fid) (same_name place.agent p.agent same) ∙ seat

  mine : conv_of (deeds (history before place.agent)) 0 t.fid ≡ Some place.number
  mine = (k.seated.seats conv t place opened.is opened.at).seat

  fids_apart : (u : Talk) (p : Place) → bytes_eq place.agent p.agent ≡ true → conv_of (deeds (history before p.agent)) 0 u.fid ≡ Some p.number → eqb p.number place.number ≡ false → eqb u.fid t.fid ≡ false
  fids_apart u p same seat numbers = elim (cases_Bool (eqb u.fid t.fid)) [
    | inl is ↦ absurd (
        let one : p.number ≡ place.number = same_some p.number place.number (sym (seat_now u p same seat) ∙ (ap (conv_of (deeds (history before place.agent)) 0) (eqb-true u.fid t.fid is) ∙ mine)) in
        not_both (eqb p.number place.number) (eq-eqb p.number place.number one) numbers)
    | inr other ↦ other
  ]

  near_seat : (name : List ℕ) (u : Talk) (p : Place) → IsSeated before name u p → bytes_eq place.agent p.agent ≡ true → bytes_eq conv name ≡ false → eqb p.number place.number ≡ false → IsSeated (act ∷ before) name u p
  near_seat name u p s same names numbers = record {
    node = s.node;
    agent = on.agents u.node ∙ s.agent;
    seat = ap (λ h. conv_of (deeds h) 0 u.fid) (on_node p.agent same) ∙ (so.behind.others u.fid (on.gone_own t.fid u.fid (fids_apart u p same s.seat numbers)) ∙ seat_now u p same s.seat);
    asks = λ call now. ap (λ h. asker (deeds h) call) (on_node p.agent same)
        ∙ so.behind.askers call p.number (ap (λ n. asker (deeds (history before n)) call) (same_name place.agent p.agent same) ∙ s.asks call (sym (other_calls name names) ∙ now)) (on.ends_own place.number p.number numbers);
  }

  -- its own
  own_seat : gone t.fid t.fid ≡ false → IsSeated (act ∷ before) conv t place
  own_seat stays =
      let s = k.seated.seats conv t place opened.is opened.at in
      let here = on_node place.agent (itself place.agent) in
      record {
        node = s.node;
        agent = on.agents t.node ∙ s.agent;
        seat = ap (λ h. conv_of (deeds h) 0 t.fid) here ∙ (so.behind.others t.fid stays ∙ mine);
        asks = λ call now. ap (λ h. asker (deeds h) call) here ∙ so.own stays (outstanding before conv) s.asks call (sym (calls_by conv) ∙ now);
      }

  other_seat : (name : List ℕ) (u : Talk) (p : Place) → talk_of before name ≡ Some u → place_of before name ≡ Some p → bytes_eq conv name ≡ false → IsSeated (act ∷ before) name u p
  other_seat name u p is at names =
      let s = k.seated.seats name u p is at in
      elim (cases_Bool (bytes_eq place.agent p.agent)) [
        | inl same ↦ near_seat name u p s same names (k.apart name conv p place at opened.at (names_swap names) (sym (same_name place.agent p.agent same)))
        | inr other ↦ far_seat name u p s other names
      ]
    where
      names_swap : bytes_eq conv name ≡ false → bytes_eq name conv ≡ false
      names_swap off = elim (cases_Bool (bytes_eq name conv)) [
        | inl same ↦ absurd (not_both (bytes_eq conv name) (subst (λ n. bytes_eq n name ≡ true) (same_name name conv same) (itself name)) off)
        | inr other ↦ other
      ]

  seat_then : (name : List ℕ) (u : Talk) (p : Place) → talk_of (act ∷ before) name ≡ Some u → place_of (act ∷ before) name ≡ Some p → IsSeated (act ∷ before) name u p
  seat_then name u p is at = elim (cases_Bool (bytes_eq conv name)) [
    | inl same ↦ (
        let named = same_name conv name same in
        let open_so = on.talks name u is in
        let u_is : t ≡ u = same_some t u (sym opened.is ∙ (ap (talk_of before) named ∙ open_so)) in
        let p_is : place ≡ p = same_some place p (sym opened.at ∙ (ap (place_of before) named ∙ (sym (on.stands name) ∙ at))) in
        let stays = on.stays u (ap (talk_of (act ∷ before)) named ∙ is) in
        subst (λ n. IsSeated (act ∷ before) n u p) named (subst (λ v. IsSeated (act ∷ before) conv v p) u_is (subst (IsSeated (act ∷ before) conv t) p_is (own_seat (subst (λ v. gone v.fid v.fid ≡ false) (sym u_is) stays)))))
    | inr other ↦ other_seat name u p (on.talks name u is) (sym (on.stands name) ∙ at) other
  ]

  pub opened_known : Known (act ∷ before)
  opened_known = record {
    seated = record { idle = idle_then; seats = seat_then };
    below = λ name p at. subst (λ n. p.number < n) (sym (opened_same p.agent)) (k.below name p (sym (on.stands name) ∙ at));
    apart = λ one other p q at there names same. k.apart one other p q (sym (on.stands one) ∙ at) (sym (on.stands other) ∙ there) names same;
    new = λ node n next. new_then node n (subst (λ m. m ≤ n) (opened_same node) next);
    silent = λ name none. silent_then name (sym (on.stands name) ∙ none);
  }

  -- ---- what it does to the conversations of its node

  does_it : (d : Done) (name : List ℕ) (p : Place) → record { agent = place.agent; turn = turn t.fid } ≡ d → place_of before name ≡ Some p → bytes_eq d.agent p.agent ≡ true → DoesTo (bytes_eq (conv_in d.turn) name) p.number d.turn (history before p.agent)
  does_it d name p is at same = subst (λ d. bytes_eq d.agent p.agent ≡ true → DoesTo (bytes_eq (conv_in d.turn) name) p.number d.turn (history before p.agent)) is (λ here. by_name (bytes_eq (conv_in (turn t.fid)) name) refl here) same
    where
      by_name : (b : Bool) → bytes_eq (conv_in (turn t.fid)) name ≡ b → bytes_eq place.agent p.agent ≡ true → DoesTo b p.number (turn t.fid) (history before p.agent)
      by_name true own here =
          let named : conv ≡ name = sym (on.of_conv t.fid) ∙ same_name (conv_in (turn t.fid)) name own in
          let p_is : place ≡ p = same_some place p (sym opened.at ∙ (ap (place_of before) named ∙ at)) in
          subst (λ q. DoesTo true q.number (turn t.fid) (history before q.agent)) p_is so.does
      by_name false other here =
          let names : bytes_eq name conv ≡ false = apart_by (cases_Bool (bytes_eq name conv)) in
          let numbers = k.apart name conv p place at opened.at names (sym (same_name place.agent p.agent here)) in
          subst (λ n. EventsLeave p.number (turn t.fid) (history before n)) (same_name place.agent p.agent here) (so.leaves p.number numbers)
        where
          apart_by : (bytes_eq name conv ≡ true) ⊎ (bytes_eq name conv ≡ false) → bytes_eq name conv ≡ false
          apart_by (inl same) = absurd (not_both (bytes_eq (conv_in (turn t.fid)) name) (subst (λ n. bytes_eq (conv_in (turn t.fid)) n ≡ true) (sym (same_name name conv same)) (ap (λ n. bytes_eq n conv) (on.of_conv t.fid) ∙ itself conv)) other)
          apart_by (inr off) = off

  pub opened_does : AgentDoes before act
  opened_does = record {
    turns = λ d name p is at same. does_it d name p (same_some (record { agent = place.agent; turn = turn t.fid }) d (sym done_is ∙ (sym on.does ∙ is))) at same;
    opens = λ node. k.new node (opened_talks (deeds (history before node))) (omega arith);
  }
