-- Taking up to the take that finds no reply.
use Rattle.std.proofs.Common.{◌≡◌, ℕ, zero, suc, ◌+◌, ◌-◌, ◌<◌, List, [], ◌∷◌, ◌++◌, length, drop, append_assoc, append-nil, Bool, true, false, cond, ltb, refl, sym, ap, subst, ◌∙◌, inl, inr, arith}
use Rattle.std.proofs.lemmas.Bool.{cases_Bool}
use Rattle.nine.specs.declared.message.RMsg.{RMsg}
use Rattle.nine.specs.Messages.{r_frame}
use Rattle.agent_history.specs.declared.event.Event.TheVariants.{Take}
use Rattle.agent_history.specs.declared.event.StepAnswer.{StepAnswer}
use Rattle.agent_history.specs.declared.event.StepAnswer.TheVariants.{Done, Reply, NoReply, Gone, Ask, DropCall, NoAsk, Stopped}
use Rattle.agent_history.specs.Deeds.{Deed, Halted, was_opened, was_hung, is_halted}
use Rattle.agent_history.specs.Replies.{untaken}
use Rattle.agent_history.specs.Histories.{History, most_events, deeds, entered, taking, answer, first_reply, is_reply}
use Rattle.mailboxes.proofs.DeliveryLemmas.{untaken_taken}
use Rattle.agent_core.specs.declared.agent.Agent.{Agent}
use Rattle.agent_core.specs.Agents.{StandsFor}
use Rattle.agent_core.specs.Events.{Answers}
use Rattle.world_history.specs.Driving.{all_taken, first_left, take_up, taken_up, takes_of}
use Rattle.agent_turns.specs.Drives.{TakesAll, TakesOne, frames_of}

-- ---- one take

less_left : (ms : List RMsg) → (first_reply ms).0 ≡ Reply → length (drop 1 ms) + 1 ≡ length ms
less_left [] e = absurd (cc)
less_left (m ∷ ms) e = omega arith

untaken_entered : (done : List Deed) → untaken (entered 0 done) 0 ≡ untaken done 0
untaken_entered done = elim (cases_Bool (was_opened done 0)) [
  | inl is ↦ rw is refl
  | inr is ↦ rw is refl
]

-- the deeds of a take, which the last event may end with a stop
take_left : (done : List Deed) (ms : List RMsg) (last : Bool) → untaken done 0 ≡ ms → (first_reply ms).0 ≡ Reply
    → length (untaken (cond last (taking 0 ms (entered 0 done)) (Halted ∷ taking 0 ms (entered 0 done))) 0) + 1 ≡ length ms
take_left done [] last is e = absurd (cc)
take_left done (m ∷ ms) true is e = ap (λ (rs : List RMsg). length rs + 1) (untaken_taken (entered 0 done) 0 ∙ ap (drop 1) (untaken_entered done ∙ is)) ∙ less_left (m ∷ ms) refl
take_left done (m ∷ ms) false is e = ap (λ (rs : List RMsg). length rs + 1) (untaken_taken (entered 0 done) 0 ∙ ap (drop 1) (untaken_entered done ∙ is)) ∙ less_left (m ∷ ms) refl

-- a take that found a reply leaves one less
reply_left : (K : History) → (answer K (Take 0)).0 ≡ Reply → length (untaken (deeds (Take 0 ∷ K)) 0) + 1 ≡ length (untaken (deeds K) 0)
reply_left K e = elim (cases_Bool (is_halted (deeds K))) [
  | inl stopped ↦ absurd (let h : Gone ≡ Reply = (rw stopped at e) in (cc))
  | inr runs ↦ elim (cases_Bool (was_hung (deeds K) 0)) [
    | inl hung ↦ absurd (let h : Gone ≡ Reply = (rw (runs, hung) at e) in (cc))
    | inr live ↦ rw (runs, live) (take_left (deeds K) (untaken (deeds K) 0) (ltb (length K + 1) most_events) refl (rw (runs, live) at e))
  ]
]

is_reply-true : (a : StepAnswer) → is_reply a ≡ true → a ≡ Reply
is_reply-true Done e = absurd (cc)
is_reply-true Reply e = refl
is_reply-true NoReply e = absurd (cc)
is_reply-true Gone e = absurd (cc)
is_reply-true (Ask call conv shape) e = absurd (cc)
is_reply-true (DropCall conv) e = absurd (cc)
is_reply-true NoAsk e = absurd (cc)
is_reply-true Stopped e = absurd (cc)

is_reply-false : (a : StepAnswer) → (a ≡ Reply → ⊥) → is_reply a ≡ false
is_reply-false Done e = refl
is_reply-false Reply e = absurd (e refl)
is_reply-false NoReply e = refl
is_reply-false Gone e = refl
is_reply-false (Ask call conv shape) e = refl
is_reply-false (DropCall conv) e = refl
is_reply-false NoAsk e = refl
is_reply-false Stopped e = refl

-- the frame that a take puts out is that of the first reply that is left
frame_put : (ms : List RMsg) → (first_reply ms).0 ≡ Reply → (first_reply ms).1 ∷ [] ≡ frames_of (first_left ms)
frame_put [] e = absurd (cc)
frame_put (m ∷ ms) e = refl

frame_out : (K : History) → (answer K (Take 0)).0 ≡ Reply → (answer K (Take 0)).1 ∷ [] ≡ frames_of (first_left (untaken (deeds K) 0))
frame_out K e = elim (cases_Bool (is_halted (deeds K))) [
  | inl stopped ↦ absurd (let h : Gone ≡ Reply = (rw stopped at e) in (cc))
  | inr runs ↦ elim (cases_Bool (was_hung (deeds K) 0)) [
    | inl hung ↦ absurd (let h : Gone ≡ Reply = (rw (runs, hung) at e) in (cc))
    | inr live ↦ rw (runs, live) (frame_put (untaken (deeds K) 0) (rw (runs, live) at e))
  ]
]

pub takes_none : (K : History) (a : StepAnswer) (old new : List ℕ) (frames : List (List ℕ)) (agent : Agent) → Answers K (Take 0) a old new → (a ≡ Reply → ⊥) → StandsFor (Take 0 ∷ K) agent → TakesOne K false agent frames frames
takes_none K a old new frames agent is none stands = record {
  more_is = sym (is_reply-false (answer K (Take 0)).0 (λ e. none (is.answer ∙ e)));
  stands = stands;
  frames = sym (append-nil frames);
}

pub takes_one : (K : History) (a : StepAnswer) (old new : List ℕ) (frames more : List (List ℕ)) (agent : Agent) → Answers K (Take 0) a old new → a ≡ Reply → old ≡ [] → more ≡ frames ++ new ∷ [] → StandsFor (Take 0 ∷ K) agent → TakesOne K true agent frames more
takes_one K a old new frames more agent is one none put stands =
    let out : new ≡ (answer K (Take 0)).1 = is.out ∙ ap (λ (l : List ℕ). l ++ (answer K (Take 0)).1) none in
    record {
      more_is = sym (ap is_reply (sym is.answer ∙ one));
      stands = stands;
      frames = put ∙ ap (λ (l : List ℕ). frames ++ l ∷ []) out ∙ ap (λ (l : List (List ℕ)). frames ++ l) (frame_out K (sym is.answer ∙ one));
    }

-- ---- one after the other

-- where taking stands: some takes were made, and those that are left come to what all come to
pub record Taking (H : History) (agent : Agent) (made : List (List ℕ)) : Type 0 where
  pub history : History
  pub left : ℕ
  pub stands : StandsFor history agent
  pub enough : length (untaken (deeds history) 0) < left
  pub same : take_up left history ≡ all_taken H
  pub frames : made ++ frames_of (taken_up left history) ≡ frames_of (taken_up (takes_of H) H)

pub taking_none : (H : History) (agent : Agent) (made : List (List ℕ)) → made ≡ [] → StandsFor H agent → Taking H agent made
taking_none H agent made none stands = record {
  history = H;
  left = takes_of H;
  stands = stands;
  enough = omega arith;
  same = refl;
  frames = ap (λ (l : List (List ℕ)). l ++ frames_of (taken_up (takes_of H) H)) none;
}

more_up : (m : ℕ) (K : History) → 0 < m → is_reply (answer K (Take 0)).0 ≡ true → take_up m K ≡ take_up (m - 1) (Take 0 ∷ K)
more_up zero K lt e = absurd (omega arith)
more_up (suc m) K lt e = rw e (ap (λ (k : ℕ). take_up k (Take 0 ∷ K)) (omega arith))

more_taken : (m : ℕ) (K : History) → 0 < m → is_reply (answer K (Take 0)).0 ≡ true → taken_up m K ≡ first_left (untaken (deeds K) 0) ++ taken_up (m - 1) (Take 0 ∷ K)
more_taken zero K lt e = absurd (omega arith)
more_taken (suc m) K lt e = rw e (ap (λ (k : ℕ). first_left (untaken (deeds K) 0) ++ taken_up k (Take 0 ∷ K)) (omega arith))

last_up : (m : ℕ) (K : History) → 0 < m → is_reply (answer K (Take 0)).0 ≡ false → take_up m K ≡ Take 0 ∷ K
last_up zero K lt e = absurd (omega arith)
last_up (suc m) K lt e = rw e refl

last_taken : (m : ℕ) (K : History) → is_reply (answer K (Take 0)).0 ≡ false → taken_up m K ≡ []
last_taken zero K e = refl
last_taken (suc m) K e = rw e refl

frames_both : (xs ys : List RMsg) → frames_of (xs ++ ys) ≡ frames_of xs ++ frames_of ys
frames_both [] ys = refl
frames_both (x ∷ xs) ys = ap (λ (l : List (List ℕ)). r_frame x ∷ l) (frames_both xs ys)

pub taking_more : (H : History) (old new : Agent) (made more : List (List ℕ)) → (t : Taking H old made) → TakesOne t.history true new made more → Taking H new more
taking_more H old new made more t one =
    let is : is_reply (answer t.history (Take 0)).0 ≡ true = sym one.more_is in
    let less = reply_left t.history (is_reply-true (answer t.history (Take 0)).0 is) in
    let first : List (List ℕ) = frames_of (first_left (untaken (deeds t.history) 0)) in
    let rest : List RMsg = taken_up (t.left - 1) (Take 0 ∷ t.history) in
    record {
      history = Take 0 ∷ t.history;
      left = t.left - 1;
      stands = one.stands;
      enough = omega (arith, less, t.enough);
      same = sym (more_up t.left t.history (omega (arith, t.enough)) is) ∙ t.same;
      frames = ap (λ (l : List (List ℕ)). l ++ frames_of rest) one.frames ∙ append_assoc made first (frames_of rest)
          ∙ ap (λ (l : List (List ℕ)). made ++ l) (sym (frames_both (first_left (untaken (deeds t.history) 0)) rest))
          ∙ ap (λ (l : List RMsg). made ++ frames_of l) (sym (more_taken t.left t.history (omega (arith, t.enough)) is)) ∙ t.frames;
    }

pub taking_ends : (H : History) (old new : Agent) (made more : List (List ℕ)) → (t : Taking H old made) → TakesOne t.history false new made more → TakesAll H new more
taking_ends H old new made more t one =
    let is : is_reply (answer t.history (Take 0)).0 ≡ false = sym one.more_is in
    let none : frames_of (taken_up t.left t.history) ≡ [] = ap frames_of (last_taken t.left t.history is) in
    record {
      stands = subst (λ (K : History). StandsFor K new) (sym (last_up t.left t.history (omega (arith, t.enough)) is) ∙ t.same) one.stands;
      frames = one.frames ∙ ap (λ (l : List (List ℕ)). made ++ l) (sym none) ∙ t.frames;
    }
