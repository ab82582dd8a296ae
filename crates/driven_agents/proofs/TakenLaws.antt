-- The replies that come of an event are those that weren't taken behind it, and none is left behind its takes.
use Rattle.std.proofs.Common.{◌≡◌, ℕ, zero, suc, ◌+◌, ◌<◌, List, [], ◌∷◌, ◌++◌, length, drop, reverse, Bool, true, false, cond, ltb, ◌||◌, refl, sym, ap, ◌∙◌, arith}
use Rattle.std.proofs.lemmas.Bool.{lt-ltb}
use Rattle.std.proofs.lemmas.List.{drop-drop, length-drop, length-reverse}
use Rattle.nine.specs.declared.message.RMsg.{RMsg}
use Rattle.agent_history.specs.declared.event.Event.{Event}
use Rattle.agent_history.specs.declared.event.Event.TheVariants.{Take}
use Rattle.agent_history.specs.declared.event.StepAnswer.TheVariants.{Gone}
use Rattle.agent_history.specs.Deeds.{Deed, Entered, OfConnection, was_hung, was_opened}
use Rattle.agent_history.specs.Replies.{replies, taken, untaken}
use Rattle.agent_history.specs.Histories.{History, answer, deeds, entered, first_reply, is_reply, taking}
use Rattle.world_history.specs.Driving.{drive, first_left, replies_to, take_up, taken_up, takes_of}
use Rattle.driven_agents.specs.Idle.{Runs}
use Rattle.driven_agents.proofs.RunLaws.{going, runs_before, take_runs, taken_runs}
use Rattle.driven_agents.proofs.KeptLaws.{KeepsAsks, behind_asks}

-- ---- one take

one_more : (n : ℕ) (xs rest : List RMsg) (reply : RMsg) → drop n (reverse xs) ≡ reply ∷ rest → drop (cond (ltb n (length xs)) (n + 1) n) (reverse xs) ≡ rest
one_more n xs rest reply is =
    let within : n < length xs = omega (arith, length-drop n (reverse xs), length-reverse xs, ap length is) in
    ap (λ b. drop (cond b (n + 1) n) (reverse xs)) (lt-ltb n (length xs) within) ∙ (sym (drop-drop 1 n (reverse xs)) ∙ ap (drop 1) is)

taking_left : (b : Bool) (left : List RMsg) (done : List Deed) → untaken done 0 ≡ left → untaken (taking 0 left (cond b done (OfConnection 0 Entered ∷ done))) 0 ≡ drop 1 left
taking_left true [] done is = is
taking_left false [] done is = is
taking_left true (reply ∷ rest) done is = one_more (taken done 0) (replies done 0) rest reply is
taking_left false (reply ∷ rest) done is = one_more (taken done 0) (replies done 0) rest reply is

take_left : (h : History) → Runs (Take 0 ∷ h) → was_hung (deeds h) 0 ≡ false → untaken (deeds (Take 0 ∷ h)) 0 ≡ drop 1 (untaken (deeds h) 0)
take_left h runs there =
    let done = deeds h in
    ap (λ d. untaken d 0) (going (Take 0) h runs).now
    ∙ (ap (λ b. untaken (cond b done (taking 0 (untaken done 0) (entered 0 done))) 0) there
    ∙ taking_left (was_opened done 0) (untaken done 0) done refl)

answers_first : (h : History) → Runs h → was_hung (deeds h) 0 ≡ false → answer h (Take 0) ≡ first_reply (untaken (deeds h) 0)
answers_first h runs there =
    ap (λ b. cond (b || was_hung (deeds h) 0) (Gone, []) (first_reply (untaken (deeds h) 0))) runs
    ∙ ap (λ b. cond b (Gone, []) (first_reply (untaken (deeds h) 0))) there

-- ---- takes

pub record TakenSo (n : ℕ) (h : History) (left : List RMsg) : Type 0 where
  pub all : taken_up n h ≡ left
  pub none : untaken (deeds (take_up n h)) 0 ≡ []

by_left : (n : ℕ) (h : History) (b : Bool) (left : List RMsg) → b ≡ is_reply (first_reply left).0 → untaken (deeds h) 0 ≡ left → untaken (deeds (Take 0 ∷ h)) 0 ≡ drop 1 left → length left < suc n
    → (Runs (take_up n (Take 0 ∷ h)) → (rest : List RMsg) → untaken (deeds (Take 0 ∷ h)) 0 ≡ rest → length rest < n → TakenSo n (Take 0 ∷ h) rest)
    → Runs (cond b (take_up n (Take 0 ∷ h)) (Take 0 ∷ h))
    → (cond b (first_left (untaken (deeds h) 0) ++ taken_up n (Take 0 ∷ h)) [] ≡ left) × (untaken (deeds (cond b (take_up n (Take 0 ∷ h)) (Take 0 ∷ h))) 0 ≡ [])
by_left n h true [] says is next few more runs = absurd cc
by_left n h false (reply ∷ rest) says is next few more runs = absurd cc
by_left n h false [] says is next few more runs = (refl, next)
by_left n h true (reply ∷ rest) says is next few more runs =
    let so = more runs rest next (omega arith) in
    (ap (λ left. first_left left ++ taken_up n (Take 0 ∷ h)) is ∙ ap (λ left. reply ∷ left) so.all, so.none)

by_hang : (b c : Bool) (left : List RMsg) (done : List Deed) → was_hung done 0 ≡ false → was_hung (cond b done (taking 0 left (cond c done (OfConnection 0 Entered ∷ done)))) 0 ≡ false
by_hang true c left done there = there
by_hang false true [] done there = there
by_hang false false [] done there = there
by_hang false true (reply ∷ rest) done there = there
by_hang false false (reply ∷ rest) done there = there

still_there : (h : History) → Runs (Take 0 ∷ h) → was_hung (deeds h) 0 ≡ false → was_hung (deeds (Take 0 ∷ h)) 0 ≡ false
still_there h runs there = let done = deeds h in ap (λ d. was_hung d 0) (going (Take 0) h runs).now ∙ by_hang (was_hung done 0) (was_opened done 0) (untaken done 0) done there

takes_all : (n : ℕ) (h : History) → was_hung (deeds h) 0 ≡ false → Runs (take_up n h) → (left : List RMsg) → untaken (deeds h) 0 ≡ left → length left < n → TakenSo n h left
takes_all zero h there runs left is few = absurd (omega arith)
takes_all (suc n) h there runs left is few =
    let once = take_runs n h runs in
    let b = is_reply (answer h (Take 0)).0 in
    let says : b ≡ is_reply (first_reply left).0 = ap (λ a. is_reply a.0) (answers_first h (runs_before (Take 0) h once) there ∙ ap first_reply is) in
    let so = by_left n h b left says is (take_left h once there ∙ ap (drop 1) is) few (λ r rest e lt. takes_all n (Take 0 ∷ h) (still_there h once there) r rest e lt) runs in
    record { all = so.0; none = so.1 }

-- ---- those that follow an event

replies_taken : (e : Event) (h : History) → was_hung (deeds (e ∷ h)) 0 ≡ false → Runs (drive e h) → TakenSo (takes_of (e ∷ h)) (e ∷ h) (untaken (deeds (e ∷ h)) 0)
replies_taken e h there runs = takes_all (takes_of (e ∷ h)) (e ∷ h) there (taken_runs e h runs) (untaken (deeds (e ∷ h)) 0) refl (omega arith)

pub replies_so : (e : Event) (h : History) → was_hung (deeds (e ∷ h)) 0 ≡ false → Runs (drive e h) → replies_to e h ≡ untaken (deeds (e ∷ h)) 0
unfolding replies_to
replies_so e h there runs = (replies_taken e h there runs).all

none_handed : KeepsAsks (λ done. untaken done 0 ≡ [])
none_handed = record { hands = λ done none. none; drops = λ done none. none }

-- none is left
pub none_left : (e : Event) (h : History) → was_hung (deeds (e ∷ h)) 0 ≡ false → Runs (drive e h) → untaken (deeds (drive e h)) 0 ≡ []
none_left e h there runs = behind_asks (λ done. untaken done 0 ≡ []) none_handed e h runs (replies_taken e h there runs).none
