-- A conversation that is opened: it has the next number of its node and a small fid that no other holds, and all others stay.
use Rattle.std.proofs.Common.{◌≡◌, ℕ, ◌≤◌, ◌<◌, List, [], ◌∷◌, map, Bool, true, false, cond, eqb, ◌&&◌, ◌||◌, Some, None, refl, sym, ap, subst, ◌∙◌, ◌⊎◌, inl, inr, arith}
use Rattle.std.specs.Prelude.{find, option_map}
use Rattle.std.specs.Str.{bytes_eq}
use Rattle.std.proofs.lemmas.Bool.{cases_Bool, eqb-true, or_parts}
use Rattle.std.proofs.lemmas.List.{length-map}
use Rattle.talks.specs.Standings.{standing}
use Rattle.agent_history.specs.Conversations.{Speaker, asker, conv_of, opened_talks, speakers}
use Rattle.agent_history.specs.Histories.{History, deeds}
use Rattle.agent_laws.proofs.ConversationLaws.{few_speak}
use Rattle.world_history.specs.Acts.{Act, Opened, Talk, agent_of, fids_on, has_name, is_held, is_node, opened_names, talk_of, talks}
use Rattle.world_history.specs.Driving.{opened, refuses_open}
use Rattle.world_history.specs.Scripts.{is_unfit}
use Rattle.world_history.specs.Turns.{after, lets_open}
use Rattle.world_history.specs.Worlds.{Done, fid_for, history, outstanding}
use Rattle.world_promises.specs.Agents.{AgentDoes, DoesTo, begun_in, conv_in}
use Rattle.world_promises.specs.Conditions.{AreDone}
use Rattle.world_promises.specs.Settings.{Place, next_place, place_of}
use Rattle.world_history.proofs.AgentLemmas.{agents_apart}
use Rattle.world_promises.proofs.PlaceLemmas.{placed, unplaced}
use Rattle.driven_agents.specs.Idle.{IsIdle, Runs}
use Rattle.driven_agents.proofs.OpensLaws.{SeatSo, seat_is}
use Rattle.world_promises.specs.Worlds.{AllRun, IsSeated}
use Rattle.world_promises.proofs.FidLemmas.{least_free, least_off, least_small, not_same}
use Rattle.world_promises.proofs.KnownLaws.{Known, none_some, not_both, same_some, unequal}
use Rattle.world_promises.proofs.RunLemmas.{itself, same_name}
use Rattle.world_promises.proofs.TalkLemmas.{IsFound, all_found, held_by_talk, is_held_by, new_name, new_talk, none_named, opened_talk}

-- ---- its fid

-- a fid that has a conversation open is among those of its agent
is_spoken : (fid number : ℕ) (ss : List Speaker) → option_map (λ s. s.conv) (find (λ s. eqb s.conn 0 && eqb s.fid fid) ss) ≡ Some number → is_held fid (map (λ s. s.fid) ss) ≡ true
is_spoken fid number [] is = absurd cc
is_spoken fid number (s ∷ ss) is = by_fid (eqb s.fid fid) (eqb s.conn 0) is (is_spoken fid number ss)
  where
    by_fid : (b c : Bool) → option_map (λ s. s.conv) (cond (c && b) (Some s) (find (λ s. eqb s.conn 0 && eqb s.fid fid) ss)) ≡ Some number → (option_map (λ s. s.conv) (find (λ s. eqb s.conn 0 && eqb s.fid fid) ss) ≡ Some number → is_held fid (map (λ s. s.fid) ss) ≡ true) → (b || is_held fid (map (λ s. s.fid) ss)) ≡ true
    by_fid true c is more = refl
    by_fid false true is more = more is
    by_fid false false is more = more is

held_is_spoken : (before : List Act) → AreDone before → Known before → (node : List ℕ) (fid : ℕ) → is_held fid (fids_on node (talks before)) ≡ true → is_held fid (map (λ s. s.fid) (speakers (deeds (history before (agent_of before node))))) ≡ true
held_is_spoken before done k node fid held =
    let t = held_by_talk node (IsFound before) fid (talks before) (all_found before done) held in
    let p = placed before done t.0.conv t.0 t.1 in
    let s = k.seated.seats t.0.conv t.0 p.place t.1 p.is in
    subst (λ f. is_held f (map (λ s. s.fid) (speakers (deeds (history before (agent_of before node))))) ≡ true) t.3
    (subst (λ n. is_held t.0.fid (map (λ s. s.fid) (speakers (deeds (history before n)))) ≡ true) (p.agent ∙ ap (agent_of before) (same_name t.0.node node t.2)) (is_spoken t.0.fid p.place.number (speakers (deeds (history before p.place.agent))) s.seat))

small_fid : (before : List Act) → AreDone before → Known before → (node : List ℕ) → fid_for before node < 65535
small_fid before done k node =
    let ss = speakers (deeds (history before (agent_of before node))) in
    least_small (fids_on node (talks before)) (map (λ s. s.fid) ss) (λ fid held. held_is_spoken before done k node fid held) (omega (arith, few_speak (history before (agent_of before node)), length-map ss (λ s. s.fid)))

-- ---- the act

unrefused : (before : List Act) (node conv : List ℕ) → is_unfit before (Opened node conv) ≡ false → refuses_open (fid_for before node) (history before (agent_of before node)) ≡ false
unfolding is_unfit
unrefused before node conv fits = (or_parts (has_name conv (opened_names before)) (refuses_open (fid_for before node) (history before (agent_of before node))) fits).1

opening : (before : List Act) (node : List ℕ) → after (lets_open (fid_for before node)) (history before (agent_of before node)) ≡ opened (fid_for before node) (history before (agent_of before node))
unfolding after
opening before node = refl

here_is : (before : List Act) (node conv : List ℕ) → history (Opened node conv ∷ before) (agent_of before node) ≡ opened (fid_for before node) (history before (agent_of before node))
here_is before node conv = let agent = agent_of before node in ap (λ b. cond b (after (lets_open (fid_for before node)) (history before agent)) (history before agent)) (itself agent) ∙ opening before node

seat_so : (before : List Act) (node conv : List ℕ) → AreDone (Opened node conv ∷ before) → AllRun (Opened node conv ∷ before) → Known before → SeatSo (fid_for before node) (history before (agent_of before node))
seat_so before node conv done run k =
    let h = history before (agent_of before node) in
    seat_is (fid_for before node) h (k.seated.idle node done.0.named) (small_fid before done.1 k node) (least_off (fids_on node (talks before))) (k.new (agent_of before node) (opened_talks (deeds h)) (omega arith))
    (subst Runs (here_is before node conv) (run (agent_of before node))) (unrefused before node conv done.0.fits)

module _ (before : List Act) (node conv : List ℕ) (done : AreDone (Opened node conv ∷ before)) (k : Known before) (so : SeatSo (fid_for before node) (history before (agent_of before node))) where
  off_node : (other : List ℕ) → bytes_eq (agent_of before node) other ≡ false → history (Opened node conv ∷ before) other ≡ history before other
  off_node other apart = ap (λ b. cond b (after (lets_open (fid_for before node)) (history before other)) (history before other)) apart

  on_node : (other : List ℕ) → bytes_eq (agent_of before node) other ≡ true → history (Opened node conv ∷ before) other ≡ opened (fid_for before node) (history before (agent_of before node))
  on_node other same = ap (history (Opened node conv ∷ before)) (sym (same_name (agent_of before node) other same)) ∙ here_is before node conv

  either_node : (P : List ℕ → History → Type 0) → P (agent_of before node) (opened (fid_for before node) (history before (agent_of before node))) → ((other : List ℕ) → bytes_eq (agent_of before node) other ≡ false → P other (history before other)) → (other : List ℕ) → P other (history (Opened node conv ∷ before) other)
  either_node P mine theirs other = elim (cases_Bool (bytes_eq (agent_of before node) other)) [
    | inl same ↦ subst (λ n. P n (history (Opened node conv ∷ before) n)) (same_name (agent_of before node) other same) (subst (P (agent_of before node)) (sym (here_is before node conv)) mine)
    | inr apart ↦ subst (P other) (sym (off_node other apart)) (theirs other apart)
  ]

  -- ---- places

  -- a place is the new one, or one of before
  old_or_new : (name : List ℕ) (p : Place) → place_of (Opened node conv ∷ before) name ≡ Some p → ((bytes_eq conv name ≡ true) × (next_place before node ≡ p)) ⊎ ((bytes_eq conv name ≡ false) × (place_of before name ≡ Some p))
  old_or_new name p at = by_name (bytes_eq conv name) refl at
    where
      by_name : (b : Bool) → bytes_eq conv name ≡ b → cond b (Some (next_place before node)) (place_of before name) ≡ Some p → ((bytes_eq conv name ≡ true) × (next_place before node ≡ p)) ⊎ ((bytes_eq conv name ≡ false) × (place_of before name ≡ Some p))
      by_name true same at = inl (same, same_some _ p at)
      by_name false apart at = inr (apart, at)

  grows : (other : List ℕ) → opened_talks (deeds (history before other)) ≤ opened_talks (deeds (history (Opened node conv ∷ before) other))
  grows = either_node (λ n h. opened_talks (deeds (history before n)) ≤ opened_talks (deeds h)) (omega (arith, so.opened)) (λ other apart. omega arith)

  next_below : opened_talks (deeds (history before (agent_of before node))) < opened_talks (deeds (history (Opened node conv ∷ before) (agent_of before node)))
  next_below = subst (λ h. opened_talks (deeds (history before (agent_of before node))) < opened_talks (deeds h)) (sym (here_is before node conv)) (omega (arith, so.opened))

  below_then : (name : List ℕ) (p : Place) → place_of (Opened node conv ∷ before) name ≡ Some p → p.number < opened_talks (deeds (history (Opened node conv ∷ before) p.agent))
  below_then name p at = elim (old_or_new name p at) [
    | inl new ↦ subst (λ q. q.number < opened_talks (deeds (history (Opened node conv ∷ before) q.agent))) new.1 next_below
    | inr old ↦ (let low = k.below name p old.1 in let more = grows p.agent in omega arith)
  ]

  low_place : (name : List ℕ) (p : Place) → place_of before name ≡ Some p → agent_of before node ≡ p.agent → p.number < opened_talks (deeds (history before (agent_of before node)))
  low_place name p at same = subst (λ n. p.number < opened_talks (deeds (history before n))) (sym same) (k.below name p at)

  apart_then : (one other : List ℕ) (p q : Place) → place_of (Opened node conv ∷ before) one ≡ Some p → place_of (Opened node conv ∷ before) other ≡ Some q → bytes_eq one other ≡ false → p.agent ≡ q.agent → eqb p.number q.number ≡ false
  apart_then one other p q at there names same = elim (old_or_new one p at) [
    | inl new ↦ elim (old_or_new other q there) [
      | inl both ↦ absurd (not_both (bytes_eq one other) (subst (λ n. bytes_eq one n ≡ true) (sym (same_name conv one new.0) ∙ same_name conv other both.0) (itself one)) names)
      | inr old ↦ subst (λ n. eqb n q.number ≡ false) (ap (λ p. p.number) new.1) (unequal q.number (opened_talks (deeds (history before (agent_of before node)))) (low_place other q old.1 (ap (λ p. p.agent) new.1 ∙ same)))
    ]
    | inr old ↦ elim (old_or_new other q there) [
      | inl new ↦ subst (λ n. eqb p.number n ≡ false) (ap (λ p. p.number) new.1) (not_same p.number (opened_talks (deeds (history before (agent_of before node)))) (low_place one p old.1 (ap (λ p. p.agent) new.1 ∙ sym same)))
      | inr both ↦ k.apart one other p q old.1 both.1 names same
    ]
  ]

  new_then : (other : List ℕ) (n : ℕ) → opened_talks (deeds (history (Opened node conv ∷ before) other)) ≤ n → begun_in (history (Opened node conv ∷ before) other) n ≡ None
  new_then other n next = either_node (λ name h. (n : ℕ) → opened_talks (deeds (history before name)) ≤ n → begun_in h n ≡ None) (λ n low. ap (λ talk. (standing talk).begun) (so.talks n) ∙ k.new (agent_of before node) n low) (λ name apart n low. k.new name n low) other n (let more = grows other in omega arith)

  silent_then : (name : List ℕ) → place_of (Opened node conv ∷ before) name ≡ None → outstanding before name ≡ None
  silent_then name none = by_name (bytes_eq conv name) none
    where
      by_name : (b : Bool) → cond b (Some (next_place before node)) (place_of before name) ≡ None → outstanding before name ≡ None
      by_name true none = absurd cc
      by_name false none = k.silent name none

  -- ---- seats

  -- one that was open, on its node or another
  old_seat : (name : List ℕ) (u : Talk) (p : Place) → talk_of before name ≡ Some u → IsSeated before name u p → IsSeated (Opened node conv ∷ before) name u p
  old_seat name u p is s = elim (cases_Bool (bytes_eq (agent_of before node) p.agent)) [
    | inr apart ↦ record { node = s.node; agent = s.agent; seat = ap (λ h. conv_of (deeds h) 0 u.fid) (off_node p.agent apart) ∙ s.seat; asks = λ call now. ap (λ h. asker (deeds h) call) (off_node p.agent apart) ∙ s.asks call now }
    | inl same ↦ (
        let here = same_name (agent_of before node) p.agent same in
        let there : bytes_eq u.node node ≡ true = sym (agents_apart before u.node node) ∙ (ap (λ n. bytes_eq n (agent_of before node)) (s.agent ∙ sym here) ∙ itself (agent_of before node)) in
        let held = is_held_by node (λ x. bytes_eq x.conv name) (talks before) u is there in
        record {
          node = s.node;
          agent = s.agent;
          seat = ap (λ h. conv_of (deeds h) 0 u.fid) (on_node p.agent same) ∙ (so.others u.fid (other_fid u.fid held) ∙ (ap (λ n. conv_of (deeds (history before n)) 0 u.fid) here ∙ s.seat));
          asks = λ call now. ap (λ h. asker (deeds h) call) (on_node p.agent same) ∙ (so.askers call ∙ (ap (λ n. asker (deeds (history before n)) call) here ∙ s.asks call now));
        })
  ]
    where
      other_fid : (fid : ℕ) → is_held fid (fids_on node (talks before)) ≡ true → eqb (fid_for before node) fid ≡ false
      other_fid fid held = elim (cases_Bool (eqb (fid_for before node) fid)) [
        | inl same ↦ absurd (not_both (is_held fid (fids_on node (talks before))) held (ap (λ f. is_held f (fids_on node (talks before))) (sym (eqb-true (fid_for before node) fid same)) ∙ least_free (fids_on node (talks before))))
        | inr apart ↦ apart
      ]

  -- the new one
  new_seat : IsSeated (Opened node conv ∷ before) conv (new_talk before node conv) (next_place before node)
  new_seat = record {
    node = refl;
    agent = refl;
    seat = ap (λ h. conv_of (deeds h) 0 (fid_for before node)) (here_is before node conv) ∙ so.seat;
    asks = λ call now. absurd (none_some (outstanding before conv) call (k.silent conv (unplaced before node conv conv done.0.fits (itself conv))) now);
  }

  seat_then : (name : List ℕ) (u : Talk) (p : Place) → talk_of (Opened node conv ∷ before) name ≡ Some u → place_of (Opened node conv ∷ before) name ≡ Some p → IsSeated (Opened node conv ∷ before) name u p
  seat_then name u p is at = elim (old_or_new name p at) [
    | inr old ↦ elim (opened_talk before node conv name u is) [
      | inl was ↦ old_seat name u p was (k.seated.seats name u p was old.1)
      | inr now ↦ absurd (not_both (bytes_eq conv name) now.0 old.0)
    ]
    | inl new ↦ elim (opened_talk before node conv name u is) [
      | inl was ↦ absurd (none_some (talk_of before name) u (ap (talk_of before) (sym (same_name conv name new.0)) ∙ none_named before done.1 conv (talk_of before conv) refl (new_name before node conv done.0.fits)) was)
      | inr now ↦ subst (λ n. IsSeated (Opened node conv ∷ before) n u p) (same_name conv name new.0) (subst (λ v. IsSeated (Opened node conv ∷ before) conv v p) now.1 (subst (IsSeated (Opened node conv ∷ before) conv (new_talk before node conv)) new.1 new_seat))
    ]
  ]

  known_then : Known (Opened node conv ∷ before)
  known_then = record {
    seated = record { idle = λ other is. either_node (λ agent h. IsIdle (history before agent) → IsIdle h) (λ _. so.idle) (λ agent apart idle. idle) (agent_of before other) (k.seated.idle other is); seats = seat_then };
    below = below_then;
    apart = apart_then;
    new = new_then;
    silent = silent_then;
  }

pub opened_known : (before : List Act) (node conv : List ℕ) → AreDone (Opened node conv ∷ before) → AllRun (Opened node conv ∷ before) → Known before → Known (Opened node conv ∷ before)
opened_known before node conv done run k = known_then before node conv done k (seat_so before node conv done run k)

does_unit : (b : Bool) (number fid : ℕ) (h : History) → DoesTo b number (lets_open fid) h
does_unit true number fid h = tt
does_unit false number fid h = tt

pub opened_does : (before : List Act) (node conv : List ℕ) → Known before → AgentDoes before (Opened node conv)
opened_does before node conv k = record {
  turns = λ d name p is at same. subst (λ (d : Done). DoesTo (bytes_eq (conv_in d.turn) name) p.number d.turn (history before p.agent)) (same_some (record { agent = agent_of before node; turn = lets_open (fid_for before node) }) d is) (does_unit (bytes_eq [] name) p.number (fid_for before node) (history before p.agent));
  opens = λ n. k.new n (opened_talks (deeds (history before n))) (omega arith);
}
