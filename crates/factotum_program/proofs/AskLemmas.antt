-- Asking and closing until nothing is due.
use Rattle.std.proofs.Common.{◌≡◌, ◌⊎◌, ℕ, zero, suc, ◌+◌, ◌<◌, List, [], ◌∷◌, ◌++◌, length, drop, Option, Some, None, Bool, true, false, cond, ltb, not, refl, sym, ap, subst, ◌∙◌, append_assoc, append-nil, inl, inr, arith}
use Rattle.std.specs.List.{list_all}
use Rattle.std.proofs.lemmas.Bool.{cases_Bool, false≢true}
use Rattle.wire_base.specs.declared.shape.Shape.{Shape}
use Rattle.wire_streams.specs.Dials.{Dialed}
use Rattle.wire_streams.specs.declared.dialer.Made.{Made}
use Rattle.wire_streams.specs.declared.dialer.Made.TheVariants.{Close}
use Rattle.wire_streams.specs.declared.dialer.Outcome.{Outcome}
use Rattle.wire_streams.specs.declared.dialer.Outcome.TheVariants.{Answered, Unanswered, NoRoom as Roomless}
use Rattle.roles.specs.declared.need.Need.{Need}
use Rattle.roles.specs.declared.need.Need.TheVariants as n
use Rattle.talks.specs.Standings.{question_of}
use Rattle.agent_history.specs.declared.event.Event.{Event}
use Rattle.agent_history.specs.declared.event.Event.TheVariants.{Answer, NoAnswer, NoRoom, TakeAsk}
use Rattle.agent_history.specs.declared.event.StepAnswer.{StepAnswer}
use Rattle.agent_history.specs.declared.event.StepAnswer.TheVariants.{Done, Reply, NoReply, Gone, Ask, DropCall, NoAsk, Stopped as StoppedAnswer}
use Rattle.agent_history.specs.Deeds.{Deed, is_halted}
use Rattle.agent_history.specs.Conversations.{Drop, Due, NoneDue, DropDue, Question, QuestionDue, drops, due, due_of, next_question, standing_of}
use Rattle.agent_history.specs.Histories.{History, answer, asks, deeds, most_events, put_out}
use Rattle.agent_core.specs.declared.agent.Agent.{Agent}
use Rattle.agent_core.specs.declared.agent.State.{State}
use Rattle.agent_core.specs.declared.agent.State.TheVariants.{Runs, Stopped}
use Rattle.agent_core.specs.Events.{Answers}
use Rattle.agent_core.specs.Agents.{AsksFewerIn, GivesUpIn, StandsFor, left_in}
use Rattle.factotum_program.specs.Pipe.{Asked, ask_all, behind_call, behind_calls, close_next, close_while, closed, ended, event_of, exchange_next, is_ask, is_drop, none_made, text_of, told_next}
use Rattle.factotum_program.specs.Sights.{MakesAll, MakesPart, is_close}
use Rattle.factotum_program.specs.Asks.{AsksAll, AsksNext, AsksNone, AsksOne, AsksSome, ClosesNext, Exchanges}
use Rattle.factotum_program.proofs.MadeLemmas.{made_none, made_more, part_more}

-- ---- what is handed out

-- an answer that hands out no question, and no connection
hands_none : (a : StepAnswer) → ((call conv : ℕ) (shape : Shape) → a ≡ Ask call conv shape → ⊥) → is_ask a ≡ false
hands_none Done none = refl
hands_none Reply none = refl
hands_none NoReply none = refl
hands_none Gone none = refl
hands_none (Ask call conv shape) none = absurd (none call conv shape refl)
hands_none (DropCall conv) none = refl
hands_none NoAsk none = refl
hands_none StoppedAnswer none = refl

drops_none : (a : StepAnswer) → ((conv : ℕ) → a ≡ DropCall conv → ⊥) → is_drop a ≡ false
drops_none Done none = refl
drops_none Reply none = refl
drops_none NoReply none = refl
drops_none Gone none = refl
drops_none (Ask call conv shape) none = refl
drops_none (DropCall conv) none = absurd (none conv refl)
drops_none NoAsk none = refl
drops_none StoppedAnswer none = refl

ask_drops_none : (a : StepAnswer) → is_ask a ≡ true → is_drop a ≡ false
ask_drops_none Done e = refl
ask_drops_none Reply e = refl
ask_drops_none NoReply e = refl
ask_drops_none Gone e = refl
ask_drops_none (Ask call conv shape) e = refl
ask_drops_none (DropCall conv) e = absurd (false≢true e)
ask_drops_none NoAsk e = refl
ask_drops_none StoppedAnswer e = refl

question_drops_none : (q : Question) (need : Need) → is_drop (asks q need).0 ≡ false
question_drops_none q (n.Exchange request shape) = refl
question_drops_none q (n.Key template) = refl
question_drops_none q (n.Offers template) = refl
question_drops_none q (n.Pick templates) = refl
question_drops_none q n.Nothing = refl

drop_due : (done : List Deed) (d : Due) → is_drop (put_out done d).0 ≡ true → (drop : Drop) × (d ≡ DropDue drop)
drop_due done NoneDue e = absurd (false≢true e)
drop_due done (DropDue drop) e = (drop, refl)
drop_due done (QuestionDue q) e = absurd (false≢true (sym (question_drops_none q (question_of (standing_of done q.conv))) ∙ e))

one_less : (ds : List Drop) (o : Option Question) (d : Drop) → due_of ds o ≡ DropDue d → length (drop 1 ds) + 1 ≡ length ds
one_less [] None d e = absurd cc
one_less [] (Some q) d e = absurd cc
one_less (x ∷ ds) o d e = omega arith

-- ---- connections are closed

close_ends : (m : ℕ) (K : History) → is_drop (answer K TakeAsk).0 ≡ false → close_while m K ≡ none_made K
close_ends zero K e = refl
close_ends (suc m) K e = rw e refl

close_more : (m k : ℕ) (K : History) → k + 1 ≡ m → is_drop (answer K TakeAsk).0 ≡ true → close_while m K ≡ behind_call (close_next K) (close_while k (TakeAsk ∷ K))
close_more zero k K e is = absurd (omega (arith, e))
close_more (suc m) k K e is = rw is (ap (λ (i : ℕ). behind_call (close_next K) (close_while i (TakeAsk ∷ K))) (omega (arith, e)))

stopped_drops_none : (K : History) → is_halted (deeds K) ≡ true → is_drop (answer K TakeAsk).0 ≡ false
stopped_drops_none K e = rw e refl

-- after a connection that was handed out those are left that are to be given up behind it, or the agent stopped
left_behind : (K : History) (d : Drop) → is_halted (deeds K) ≡ false → due (deeds K) ≡ DropDue d → (k : ℕ) → k ≡ length (drop 1 (drops (deeds K))) → close_while k (TakeAsk ∷ K) ≡ closed (TakeAsk ∷ K)
left_behind K d runs next k e = elim (cases_Bool (ltb (length K + 1) most_events)) [
  | inl few ↦ ap (λ (i : ℕ). close_while i (TakeAsk ∷ K)) (e ∙ rw (runs, few, next) refl)
  | inr last ↦
      let stopped : is_drop (answer (TakeAsk ∷ K) TakeAsk).0 ≡ false = stopped_drops_none (TakeAsk ∷ K) (rw (runs, last) refl) in
      close_ends k (TakeAsk ∷ K) stopped ∙ sym (close_ends (length (drops (deeds (TakeAsk ∷ K)))) (TakeAsk ∷ K) stopped)
]

closes_one : (K : History) → is_drop (answer K TakeAsk).0 ≡ true → closed K ≡ behind_call (close_next K) (closed (TakeAsk ∷ K))
closes_one K is = elim (cases_Bool (is_halted (deeds K))) [
  | inl stopped ↦ absurd (false≢true (sym (stopped_drops_none K stopped) ∙ is))
  | inr runs ↦
      let found = drop_due (deeds K) (due (deeds K)) (rw runs at is) in
      let less = one_less (drops (deeds K)) (next_question (deeds K)) found.0 found.1 in
      close_more (length (drops (deeds K))) (length (drop 1 (drops (deeds K)))) K less is
      ∙ ap (behind_call (close_next K)) (left_behind K found.0 runs found.1 (length (drop 1 (drops (deeds K)))) refl)
]

closes_all : (m : ℕ) (K : History) → list_all is_close (close_while m K).calls ≡ true
closes_all zero K = refl
closes_all (suc m) K = elim (cases_Bool (is_drop (answer K TakeAsk).0)) [
  | inl one ↦ rw one (closes_all m (TakeAsk ∷ K))
  | inr none ↦ rw none refl
]

-- ---- one more

-- behind the connections that are closed first
abbrev asked_behind : Outcome → List Outcome → Asked → Asked
asked_behind outcome more c = cond (is_ask (answer c.history TakeAsk).0) (behind_calls c.calls (behind_call (exchange_next c.history outcome) (ask_all more (told_next c.history outcome)))) (ended false c)

behind_shift : (outcome : Outcome) (more : List Outcome) (call : Made) (c : Asked) → asked_behind outcome more (behind_call call c) ≡ behind_call call (asked_behind outcome more c)
behind_shift outcome more call c = step (is_ask (answer c.history TakeAsk).0)
  where
    next : Asked
    next = behind_call (exchange_next c.history outcome) (ask_all more (told_next c.history outcome))

    step : (b : Bool) → cond b (behind_calls (call ∷ c.calls) next) (ended false (behind_call call c)) ≡ behind_call call (cond b (behind_calls c.calls next) (ended false c))
    step true = refl
    step false = refl

close_step : (K : History) (more : List Outcome) → is_drop (answer K TakeAsk).0 ≡ true → ask_all more K ≡ behind_call (close_next K) (ask_all more (TakeAsk ∷ K))
close_step K [] is = ap (λ (c : Asked). ended (not (is_ask (answer c.history TakeAsk).0)) c) (closes_one K is)
close_step K (outcome ∷ more) is = ap (asked_behind outcome more) (closes_one K is) ∙ behind_shift outcome more (close_next K) (closed (TakeAsk ∷ K))

none_closed : (K : History) → is_drop (answer K TakeAsk).0 ≡ false → closed K ≡ none_made K
none_closed K e = close_ends (length (drops (deeds K))) K e

ask_step : (K : History) (outcome : Outcome) (more : List Outcome) → is_ask (answer K TakeAsk).0 ≡ true → ask_all (outcome ∷ more) K ≡ behind_call (exchange_next K outcome) (ask_all more (told_next K outcome))
ask_step K outcome more one = ap (asked_behind outcome more) (none_closed K (ask_drops_none (answer K TakeAsk).0 one)) ∙ rw one refl

none_step : (K : History) → is_drop (answer K TakeAsk).0 ≡ false → ask_all [] K ≡ ended (not (is_ask (answer K TakeAsk).0)) (none_made K)
none_step K e = ap (λ (c : Asked). ended (not (is_ask (answer c.history TakeAsk).0)) c) (none_closed K e)

-- ---- one step

-- nothing is due
pub asked_none : (H : History) (a : StepAnswer) (old put : List ℕ) (before : Option Dialed) (agent : Agent) → Answers H TakeAsk a old put → ((conv : ℕ) → a ≡ DropCall conv → ⊥) → ((call conv : ℕ) (shape : Shape) → a ≡ Ask call conv shape → ⊥) → StandsFor (TakeAsk ∷ H) agent
    → AsksNone H before before agent
asked_none H a old put before agent is kept none stands = record { none = ap is_ask (sym is.answer) ∙ hands_none a none; kept = ap is_drop (sym is.answer) ∙ drops_none a kept; made = made_none before; stands = stands }

-- a connection that was handed out was closed
pub closed_next : (H : History) (conv : ℕ) (old put : List ℕ) (before now : Option Dialed) (agent : Agent) → Answers H TakeAsk (DropCall conv) old put → MakesAll before now (Close conv ∷ []) → StandsFor (TakeAsk ∷ H) agent → AsksOne true H before now agent
closed_next H conv old put before now agent a made stands = inr (record { one = ap is_drop (sym a.answer); made = rw (← a.answer) made; stands = stands })

-- a question that was handed out was asked, and the agent was told
pub asked_next : (H : History) (call conv : ℕ) (shape : Shape) (old put : List ℕ) (before now : Option Dialed) (event : Event) (agent : Agent) → Answers H TakeAsk (Ask call conv shape) old put → old ≡ [] → Exchanges call conv put shape before now event
    → StandsFor (event ∷ TakeAsk ∷ H) agent → AsksOne true H before now agent
asked_next H call conv shape old put before now event agent a none e stands = inl (record {
  outcome = e.outcome;
  one = ap is_ask (sym a.answer);
  made = rw (← a.answer, ← (a.out ∙ ap (λ (l : List ℕ). l ++ (answer H TakeAsk).1) none)) e.made;
  stands = rw (← a.answer) (subst (λ (e : Event). StandsFor (e ∷ TakeAsk ∷ H) agent) e.is stands);
})

-- the agent had no memory to be told
pub asked_in_vain : (H : History) (call conv : ℕ) (shape : Shape) (old put : List ℕ) (before now : Option Dialed) (event : Event) → Answers H TakeAsk (Ask call conv shape) old put → old ≡ [] → Exchanges call conv put shape before now event
    → AsksSome H before now
asked_in_vain H call conv shape old put before now event a none e =
    let told : History = told_next H e.outcome in
    record {
      heard = e.outcome ∷ [];
      made = record {
        made = exchange_next H e.outcome ∷ [];
        left = (closed told).calls;
        parts = ap (λ (asked : Asked). asked.calls) (ask_step H e.outcome [] (ap is_ask (sym a.answer)));
        closes = closes_all (length (drops (deeds told))) told;
        makes = rw (← a.answer, ← (a.out ∙ ap (λ (l : List ℕ). l ++ (answer H TakeAsk).1) none)) e.made;
      };
    }

-- nothing was done
pub nothing_made : (H : History) (before : Option Dialed) → MakesPart before before (ask_all [] H).calls
nothing_made H before = record { made = []; left = (closed H).calls; parts = refl; closes = closes_all (length (drops (deeds H))) H; makes = made_none before }

pub asked_nothing : (H : History) (before : Option Dialed) → AsksSome H before before
asked_nothing H before = record { heard = []; made = nothing_made H before }

-- ---- how many are left

gives_up : (call : ℕ) (outcome : Outcome) (new : State) → GivesUpIn (event_of call outcome) Stopped new → new ≡ Stopped
gives_up call (Answered bytes) new u = u
gives_up call Unanswered new u = u
gives_up call Roomless new u = u

told_fewer : (call conv : ℕ) (shape : Shape) (outcome : Outcome) (a : StepAnswer) (old mid new : State) → AsksFewerIn TakeAsk (Ask call conv shape) old mid → AsksFewerIn (event_of call outcome) a mid new → GivesUpIn (event_of call outcome) mid new → left_in new < left_in old
told_fewer call conv shape outcome a Stopped mid new f g u = absurd f
told_fewer call conv shape (Answered bytes) a (Runs old) (Runs mid) (Runs new) f g u = omega (arith, f, g)
told_fewer call conv shape Unanswered a (Runs old) (Runs mid) (Runs new) f g u = omega (arith, f, g)
told_fewer call conv shape Roomless a (Runs old) (Runs mid) (Runs new) f g u = omega (arith, f, g)
told_fewer call conv shape outcome a (Runs old) (Runs mid) Stopped f g u = omega (arith, f)
told_fewer call conv shape outcome a (Runs old) Stopped new f g u = subst (λ (s : State). left_in s < left_in (Runs old)) (sym (gives_up call outcome new u)) (omega (arith, f))

pub asks_fewer : (call conv : ℕ) (shape : Shape) (request : List ℕ) (before now : Option Dialed) (event : Event) (a : StepAnswer) (old mid new : State) → AsksFewerIn TakeAsk (Ask call conv shape) old mid → Exchanges call conv request shape before now event → AsksFewerIn event a mid new → GivesUpIn event mid new → left_in new < left_in old
asks_fewer call conv shape request before now event a old mid new f e g u =
    told_fewer call conv shape e.outcome a old mid new f (subst (λ (e : Event). AsksFewerIn e a mid new) e.is g) (subst (λ (e : Event). GivesUpIn e mid new) e.is u)

pub closes_fewer : (conv : ℕ) (old new : State) → AsksFewerIn TakeAsk (DropCall conv) old new → left_in new < left_in old
closes_fewer conv Stopped new f = absurd f
closes_fewer conv (Runs old) (Runs new) f = omega (arith, f)
closes_fewer conv (Runs old) Stopped f = omega (arith, f)

-- ---- one after the other

-- where asking stands: these outcomes were heard, and what more outcomes come to is that of asking on from here
pub record Asking (H : History) (before now : Option Dialed) (agent : Agent) : Type 0 where
  pub heard : List Outcome
  pub calls : List Made
  pub history : History
  pub stands : StandsFor history agent
  pub made : MakesAll before now calls
  pub so : (more : List Outcome) → ask_all (heard ++ more) H ≡ behind_calls calls (ask_all more history)

pub asking_none : (H : History) (before : Option Dialed) (agent : Agent) → StandsFor H agent → Asking H before before agent
asking_none H before agent stands = record { heard = []; calls = []; history = H; stands = stands; made = made_none before; so = λ more. refl }

calls_shift : (calls : List Made) (call : Made) (asked : Asked) → behind_calls calls (behind_call call asked) ≡ behind_calls (calls ++ call ∷ []) asked
calls_shift calls call asked = ap (λ (l : List Made). record { history = asked.history; calls = l; met = asked.met }) (sym (append_assoc calls (call ∷ []) asked.calls))

asking_asks : (H : History) (before now next : Option Dialed) (old new : Agent) → (a : Asking H before now old) → AsksNext a.history now next new → Asking H before next new
asking_asks H before now next old new a n = record {
  heard = a.heard ++ n.outcome ∷ [];
  calls = a.calls ++ exchange_next a.history n.outcome ∷ [];
  history = told_next a.history n.outcome;
  stands = n.stands;
  made = made_more before now next a.calls (exchange_next a.history n.outcome ∷ []) a.made n.made;
  so = λ more.
      ap (λ (l : List Outcome). ask_all l H) (append_assoc a.heard (n.outcome ∷ []) more) ∙ a.so (n.outcome ∷ more)
      ∙ ap (behind_calls a.calls) (ask_step a.history n.outcome more n.one) ∙ calls_shift a.calls (exchange_next a.history n.outcome) (ask_all more (told_next a.history n.outcome));
}

asking_closes : (H : History) (before now next : Option Dialed) (old new : Agent) → (a : Asking H before now old) → ClosesNext a.history now next new → Asking H before next new
asking_closes H before now next old new a n = record {
  heard = a.heard;
  calls = a.calls ++ close_next a.history ∷ [];
  history = TakeAsk ∷ a.history;
  stands = n.stands;
  made = made_more before now next a.calls (close_next a.history ∷ []) a.made n.made;
  so = λ more. a.so more ∙ ap (behind_calls a.calls) (close_step a.history more n.one) ∙ calls_shift a.calls (close_next a.history) (ask_all more (TakeAsk ∷ a.history));
}

pub asking_more : (H : History) (before now next : Option Dialed) (old new : Agent) → (a : Asking H before now old) → AsksOne true a.history now next new → Asking H before next new
asking_more H before now next old new a (inl n) = asking_asks H before now next old new a n
asking_more H before now next old new a (inr n) = asking_closes H before now next old new a n

pub asking_ends : (H : History) (before now next : Option Dialed) (old new : Agent) → (a : Asking H before now old) → AsksNone a.history now next new → AsksAll H before next new
asking_ends H before now next old new a n =
    let is : ask_all a.heard H ≡ behind_calls a.calls (ended (not (is_ask (answer a.history TakeAsk).0)) (none_made a.history)) =
    ap (λ (l : List Outcome). ask_all l H) (sym (append-nil a.heard)) ∙ a.so [] ∙ ap (behind_calls a.calls) (none_step a.history n.kept) in
    record {
      heard = a.heard;
      met = ap (λ (asked : Asked). asked.met) is ∙ ap not n.none;
      made = subst (λ (asked : Asked). MakesAll before next asked.calls) (sym is) (made_more before now next a.calls [] a.made n.made);
      stands = subst (λ (asked : Asked). StandsFor asked.history new) (sym is) n.stands;
    }

pub asking_stops : (H : History) (before now next : Option Dialed) (old : Agent) → (a : Asking H before now old) → AsksSome a.history now next → AsksSome H before next
asking_stops H before now next old a s = record {
  heard = a.heard ++ s.heard;
  made = subst (λ (asked : Asked). MakesPart before next asked.calls) (sym (a.so s.heard)) (part_more before now next a.calls (ask_all s.heard a.history).calls a.made s.made);
}

-- ---- what is asked is no reply

told_text : (K : History) (outcome : Outcome) → text_of (told_next K outcome) ≡ text_of K
told_text K (Answered bytes) = refl
told_text K Unanswered = refl
told_text K Roomless = refl

closed_text : (m : ℕ) (K : History) → text_of (close_while m K).history ≡ text_of K
closed_text zero K = refl
closed_text (suc m) K = elim (cases_Bool (is_drop (answer K TakeAsk).0)) [
  | inl one ↦ rw one (closed_text m (TakeAsk ∷ K))
  | inr none ↦ rw none refl
]

pub asks_text : (heard : List Outcome) (H : History) → text_of (ask_all heard H).history ≡ text_of H
asks_text [] H = closed_text (length (drops (deeds H))) H
asks_text (outcome ∷ more) H =
    let before : History = (closed H).history in
    elim (cases_Bool (is_ask (answer before TakeAsk).0)) [
      | inl one ↦ rw one (asks_text more (told_next before outcome) ∙ (told_text before outcome ∙ closed_text (length (drops (deeds H))) H))
      | inr none ↦ rw none (closed_text (length (drops (deeds H))) H)
    ]
