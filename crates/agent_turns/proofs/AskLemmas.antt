-- Taking questions up to the take that finds none.
use Rattle.std.proofs.Common.{◌≡◌, ℕ, zero, suc, ◌+◌, ◌-◌, ◌<◌, List, [], ◌∷◌, ◌++◌, length, drop, filter, find, not, append_assoc, append-nil, Bool, true, false, cond, ltb, Option, Some, None, refl, sym, ap, subst, ◌∙◌, inl, inr, arith}
use Rattle.std.proofs.lemmas.Bool.{cases_Bool, false≢true}
use Rattle.wire_base.specs.declared.shape.Shape.{Shape}
use Rattle.agent_history.specs.declared.event.Event.TheVariants.{TakeAsk}
use Rattle.agent_history.specs.declared.event.StepAnswer.{StepAnswer}
use Rattle.agent_history.specs.declared.event.StepAnswer.TheVariants.{Done, Reply, NoReply, Gone, Ask, DropCall, NoAsk, Stopped}
use Rattle.agent_history.specs.Deeds.{Deed, Halted, is_halted}
use Rattle.agent_history.specs.Conversations.{Drop, Due, NoneDue, DropDue, QuestionDue, drops, due, due_of, hand_first, next_question, questions, standing_of}
use Rattle.agent_history.specs.Conversations as told
use Rattle.agent_history.specs.Histories.{Answer, History, answer, deeds, handing, most_events, put_out}
use Rattle.agent_core.specs.declared.agent.Agent.{Agent}
use Rattle.agent_core.specs.declared.agent.State.{State}
use Rattle.agent_core.specs.declared.agent.State.TheVariants.{Runs}
use Rattle.agent_core.specs.declared.agent.State.TheVariants as states
use Rattle.agent_core.specs.Events.{Answers}
use Rattle.agent_core.specs.Agents.{AsksFewerIn, StandsFor, left_in}
use Rattle.world_history.specs.declared.question.Question.{Question}
use Rattle.world_history.specs.Driving.{ask_up, asked_up, asks_of, hands_out, left_to_hand, question_in}
use Rattle.agent_turns.specs.Drives.{AsksAll, AsksOne}

-- ---- what is left

-- those that weren't handed out
abbrev unhanded : List told.Question → List told.Question
unhanded qs = filter (λ q. not q.handed) qs

one_handed : (qs : List told.Question) (q : told.Question) → find (λ q. not q.handed) qs ≡ Some q → length (unhanded (hand_first qs)) + 1 ≡ length (unhanded qs)
one_handed [] q e = absurd (cc)
one_handed (x ∷ qs) q e = elim (cases_Bool x.handed) [
  | inl is ↦ rw is (one_handed qs q (rw is at e))
  | inr is ↦ rw is (omega arith)
]

due_drop : (ds : List Drop) (o : Option told.Question) (d : Drop) → due_of ds o ≡ DropDue d → length (drop 1 ds) + 1 ≡ length ds
due_drop [] None d e = absurd (cc)
due_drop [] (Some q) d e = absurd (cc)
due_drop (x ∷ ds) o d e = omega arith

due_question : (ds : List Drop) (o : Option told.Question) (q : told.Question) → due_of ds o ≡ QuestionDue q → (found : told.Question) × (o ≡ Some found)
due_question [] None q e = absurd (cc)
due_question [] (Some p) q e = (p, refl)
due_question (x ∷ ds) None q e = absurd (cc)
due_question (x ∷ ds) (Some p) q e = (p, refl)

left_after : (done : List Deed) (d : Due) → due done ≡ d → hands_out (put_out done d).0 ≡ true → left_to_hand (handing d done) + 1 ≡ left_to_hand done
left_after done NoneDue is e = absurd (false≢true e)
left_after done (DropDue d) is e = omega (arith, due_drop (drops done) (next_question done) d is)
left_after done (QuestionDue q) is e =
    let found = due_question (drops done) (next_question done) q is in
    omega (arith, one_handed (questions done) found.0 found.1)

-- the same where the event is the last
left_behind : (done : List Deed) (last : Bool) → hands_out (put_out done (due done)).0 ≡ true → left_to_hand (cond last (handing (due done) done) (Halted ∷ handing (due done) done)) < left_to_hand done
left_behind done true e = omega (arith, left_after done (due done) refl e)
left_behind done false e = omega (arith, left_after done (due done) refl e)

fewer_left : (K : History) → hands_out (answer K TakeAsk).0 ≡ true → left_to_hand (deeds (TakeAsk ∷ K)) < left_to_hand (deeds K)
fewer_left K e = elim (cases_Bool (is_halted (deeds K))) [
  | inl stopped ↦ absurd (false≢true (rw stopped at e))
  | inr runs ↦ rw runs (left_behind (deeds K) (ltb (length K + 1) most_events) (rw runs at e))
]

-- ---- one take

none_put : (p : Answer) → hands_out p.0 ≡ false → question_in p ≡ []
none_put (Done, bytes) e = refl
none_put (Reply, bytes) e = refl
none_put (NoReply, bytes) e = refl
none_put (Gone, bytes) e = refl
none_put (Ask call conv shape, bytes) e = absurd (false≢true (sym e))
none_put (DropCall conv, bytes) e = refl
none_put (NoAsk, bytes) e = refl
none_put (Stopped, bytes) e = refl

pub hands_none : (a : StepAnswer) → ((conv : ℕ) → a ≡ DropCall conv → ⊥) → ((call conv : ℕ) (shape : Shape) → a ≡ Ask call conv shape → ⊥) → hands_out a ≡ false
hands_none Done kept none = refl
hands_none Reply kept none = refl
hands_none NoReply kept none = refl
hands_none Gone kept none = refl
hands_none (Ask call conv shape) kept none = absurd (none call conv shape refl)
hands_none (DropCall conv) kept none = absurd (kept conv refl)
hands_none NoAsk kept none = refl
hands_none Stopped kept none = refl

pub asks_none : (K : History) (a : StepAnswer) (old new : List ℕ) (made : List Question) (agent : Agent) → Answers K TakeAsk a old new → hands_out a ≡ false → StandsFor (TakeAsk ∷ K) agent → AsksOne K false agent made made
asks_none K a old new made agent is none stands = record {
  more_is = sym none ∙ ap hands_out is.answer;
  stands = stands;
  asked = sym (append-nil made) ∙ ap (λ (l : List Question). made ++ l) (sym (none_put (answer K TakeAsk) (sym (ap hands_out is.answer) ∙ none)));
}

pub asks_drop : (K : History) (conv : ℕ) (old new : List ℕ) (made : List Question) (agent : Agent) → Answers K TakeAsk (DropCall conv) old new → StandsFor (TakeAsk ∷ K) agent → AsksOne K true agent made made
asks_drop K conv old new made agent is stands = record {
  more_is = ap hands_out is.answer;
  stands = stands;
  asked = sym (append-nil made) ∙ ap (λ (l : List Question). made ++ l) (dropped (answer K TakeAsk) (sym is.answer));
}
  where
    dropped : (p : Answer) → p.0 ≡ DropCall conv → [] ≡ question_in p
    dropped (a, bytes) e = sym (ap (λ (b : StepAnswer). question_in (b, bytes)) e)

pub asks_one : (K : History) (call conv : ℕ) (shape : Shape) (old new : List ℕ) (made more : List Question) (agent : Agent) → Answers K TakeAsk (Ask call conv shape) old new → old ≡ [] → more ≡ made ++ record { call = call; bytes = new } ∷ [] → StandsFor (TakeAsk ∷ K) agent → AsksOne K true agent made more
asks_one K call conv shape old new made more agent is none put stands = record {
  more_is = ap hands_out is.answer;
  stands = stands;
  asked = put ∙ ap (λ (l : List ℕ). made ++ record { call = call; bytes = l } ∷ []) (is.out ∙ ap (λ (l : List ℕ). l ++ (answer K TakeAsk).1) none) ∙ ap (λ (l : List Question). made ++ l) (one_in (answer K TakeAsk) (sym is.answer));
}
  where
    one_in : (p : Answer) → p.0 ≡ Ask call conv shape → record { call = call; bytes = p.1 } ∷ [] ≡ question_in p
    one_in (a, bytes) e = sym (ap (λ (b : StepAnswer). question_in (b, bytes)) e)

pub asks_fewer : (a : StepAnswer) (old new : State) → hands_out a ≡ true → AsksFewerIn TakeAsk a old new → left_in new < left_in old
asks_fewer (Ask call conv shape) (Runs old) (Runs new) e f = omega (arith, f)
asks_fewer (Ask call conv shape) (Runs old) states.Stopped e f = omega (arith, f)
asks_fewer (Ask call conv shape) states.Stopped new e f = absurd f
asks_fewer (DropCall conv) (Runs old) (Runs new) e f = omega (arith, f)
asks_fewer (DropCall conv) (Runs old) states.Stopped e f = omega (arith, f)
asks_fewer (DropCall conv) states.Stopped new e f = absurd f
asks_fewer Done old new e f = absurd (false≢true e)
asks_fewer Reply old new e f = absurd (false≢true e)
asks_fewer NoReply old new e f = absurd (false≢true e)
asks_fewer Gone old new e f = absurd (false≢true e)
asks_fewer NoAsk old new e f = absurd (false≢true e)
asks_fewer Stopped old new e f = absurd (false≢true e)

-- ---- one after the other

-- where taking stands: some takes were made, and those that are left come to what all come to
pub record Asking (H : History) (agent : Agent) (made : List Question) : Type 0 where
  pub history : History
  pub left : ℕ
  pub stands : StandsFor history agent
  pub enough : left_to_hand (deeds history) < left
  pub same : ask_up left history ≡ ask_up (asks_of H) H
  pub asked : made ++ asked_up left history ≡ asked_up (asks_of H) H

pub asking_none : (H : History) (agent : Agent) (made : List Question) → made ≡ [] → StandsFor H agent → Asking H agent made
asking_none H agent made none stands = record {
  history = H;
  left = asks_of H;
  stands = stands;
  enough = omega arith;
  same = refl;
  asked = ap (λ (l : List Question). l ++ asked_up (asks_of H) H) none;
}

more_up : (m : ℕ) (K : History) → 0 < m → hands_out (answer K TakeAsk).0 ≡ true → ask_up m K ≡ ask_up (m - 1) (TakeAsk ∷ K)
more_up zero K lt e = absurd (omega arith)
more_up (suc m) K lt e = rw e (ap (λ (k : ℕ). ask_up k (TakeAsk ∷ K)) (omega arith))

more_asked : (m : ℕ) (K : History) → 0 < m → hands_out (answer K TakeAsk).0 ≡ true → asked_up m K ≡ question_in (answer K TakeAsk) ++ asked_up (m - 1) (TakeAsk ∷ K)
more_asked zero K lt e = absurd (omega arith)
more_asked (suc m) K lt e = rw e (ap (λ (k : ℕ). question_in (answer K TakeAsk) ++ asked_up k (TakeAsk ∷ K)) (omega arith))

last_up : (m : ℕ) (K : History) → 0 < m → hands_out (answer K TakeAsk).0 ≡ false → ask_up m K ≡ TakeAsk ∷ K
last_up zero K lt e = absurd (omega arith)
last_up (suc m) K lt e = rw e refl

last_asked : (m : ℕ) (K : History) → hands_out (answer K TakeAsk).0 ≡ false → asked_up m K ≡ []
last_asked zero K e = refl
last_asked (suc m) K e = rw e refl

pub asking_more : (H : History) (old new : Agent) (made more : List Question) → (t : Asking H old made) → AsksOne t.history true new made more → Asking H new more
asking_more H old new made more t one =
    let is : hands_out (answer t.history TakeAsk).0 ≡ true = sym one.more_is in
    let less = fewer_left t.history is in
    let first : List Question = question_in (answer t.history TakeAsk) in
    let rest : List Question = asked_up (t.left - 1) (TakeAsk ∷ t.history) in
    record {
      history = TakeAsk ∷ t.history;
      left = t.left - 1;
      stands = one.stands;
      enough = omega (arith, less, t.enough);
      same = sym (more_up t.left t.history (omega (arith, t.enough)) is) ∙ t.same;
      asked = ap (λ (l : List Question). l ++ rest) one.asked ∙ append_assoc made first rest
          ∙ ap (λ (l : List Question). made ++ l) (sym (more_asked t.left t.history (omega (arith, t.enough)) is)) ∙ t.asked;
    }

pub asking_ends : (H : History) (old new : Agent) (made more : List Question) → (t : Asking H old made) → AsksOne t.history false new made more → AsksAll H new more
asking_ends H old new made more t one =
    let is : hands_out (answer t.history TakeAsk).0 ≡ false = sym one.more_is in
    record {
      stands = subst (λ (K : History). StandsFor K new) (sym (last_up t.left t.history (omega (arith, t.enough)) is) ∙ t.same) one.stands;
      asked = one.asked ∙ ap (λ (l : List Question). made ++ l) (none_put (answer t.history TakeAsk) is ∙ sym (last_asked t.left t.history is)) ∙ t.asked;
    }
