-- What is due, taken and asked, one after the other.
use Rattle.std.proofs.Common.{◌≡◌, ℕ, List, [], ◌∷◌, ◌++◌, true, false, Bool, Option, refl, sym, ap, subst, ◌∙◌, inl, inr, true≢false}
use Rattle.std.specs.Prelude.{Result, Ok, Err, IfErr}
use Rattle.wire_base.specs.declared.bytes.NoMemory.{NoMemory}
use Rattle.wire_base.specs.declared.shape.Shape.{Shape}
use Rattle.wire_streams.specs.Dials.{Dialed, Makes}
use Rattle.wire_streams.specs.declared.dialer.Made.{Made}
use Rattle.wire_streams.specs.declared.dialer.Made.TheVariants.{Exchange, Close}
use Rattle.wire_streams.specs.declared.dialer.Outcome.{Outcome}
use Rattle.wire_streams.specs.declared.dialer.Outcome.TheVariants.{Answered, Unanswered, NoRoom as Roomless}
use Rattle.turn_lock.specs.Fronts.{among}
use Rattle.turn_lock.specs.Seats.{numbers}
use Rattle.agent_history.specs.declared.event.Event.{Event}
use Rattle.agent_history.specs.declared.event.Event.TheVariants.{NoRoom, TakeAsk}
use Rattle.agent_history.specs.declared.event.StepAnswer.{StepAnswer}
use Rattle.agent_history.specs.declared.event.StepAnswer.TheVariants.{Done, Reply, NoReply, Gone, Ask, DropCall, NoAsk, Stopped as IsStopped}
use Rattle.agent_history.specs.Histories.{History, answer}
use Rattle.agent_core.specs.Events.{Answers}
use Rattle.agent_hub.specs.declared.questions.AsksEnd.{AsksEnd}
use Rattle.agent_hub.specs.declared.questions.AsksEnd.TheVariants.{Stopped, NoMemory as IsShort}
use Rattle.agent_hub.specs.Submits.{HubSeat, IsSubmitted}
use Rattle.agent_hub.specs.Entries.{LastIs, entry}
use Rattle.agent_hub.specs.Asking.{Asked, AsksNone, Closes, Exchanged, Exchanges, FindsNone, NextSo, Tells, Told, event_of, faults_after, faults_with, is_handed}
use Rattle.agent_hub.proofs.EntryLemmas.{adds_none, adds_one, adds_still, before_it}
use Rattle.agent_hub.proofs.MadeLemmas.{made_more, made_none, made_one}

pub asked_nothing : (seat : HubSeat) (origin : Option Dialed) (faults : ℕ) → Asked seat seat origin origin faults faults
asked_nothing seat origin faults = record { mine = []; added = adds_none seat; calls = []; asks = AsksNone; made = made_none origin; counted = refl }

-- ---- faults of calls

one_asked : (calls : List Made) (conv : ℕ) (request : List ℕ) (shape : Shape) (outcome : Outcome) (count : ℕ) → faults_after (calls ++ Exchange conv request shape outcome ∷ []) count ≡ faults_with outcome (faults_after calls count)
one_asked [] conv request shape outcome count = refl
one_asked (Exchange c r s o ∷ calls) conv request shape outcome count = one_asked calls conv request shape outcome (faults_with o count)
one_asked (Close c ∷ calls) conv request shape outcome count = one_asked calls conv request shape outcome count

one_closed : (calls : List Made) (conv count : ℕ) → faults_after (calls ++ Close conv ∷ []) count ≡ faults_after calls count
one_closed [] conv count = refl
one_closed (Exchange c r s o ∷ calls) conv count = one_closed calls conv (faults_with o count)
one_closed (Close c ∷ calls) conv count = one_closed calls conv count

-- ---- the agent is told

tells_it : (call : ℕ) (outcome : Outcome) → Tells call outcome (event_of call outcome)
tells_it call (Answered bytes) = inl refl
tells_it call Unanswered = refl
tells_it call Roomless = refl

pub told_it : (call : ℕ) (outcome : Outcome) (event : Event) (a : StepAnswer) (old new : List ℕ) (before after : HubSeat) (n : ℕ) → among (numbers before) n ≡ true → IsSubmitted event (Ok a) old new before after → event ≡ event_of call outcome
    → Told call outcome before after
told_it call outcome event a old new before after n is_mine s is = record {
  event = event;
  tells = subst (Tells call outcome) (sym is) (tells_it call outcome);
  later = before_it event (Ok a) old new before after s;
  added = λ first older d. adds_one event a old new first before after older n is_mine d s;
}

-- memory was short, as it is for no event but one that holds an answer
tells_no_room : (call : ℕ) (outcome : Outcome) (event : Event) (x : NoMemory) (old new : List ℕ) (before after : HubSeat) → IsSubmitted event (Err x) old new before after → event ≡ event_of call outcome → Tells call outcome (NoRoom call)
tells_no_room call (Answered bytes) event x old new before after s is = inr refl
tells_no_room call Unanswered event x old new before after s is = let t = subst (λ (e : Event). IsSubmitted e (Err x) old new before after) is s in absurd (true≢false (sym t.answered.0))
tells_no_room call Roomless event x old new before after s is = refl

pub told_no_room : (call : ℕ) (outcome : Outcome) (event : Event) (x : NoMemory) (reply : Result StepAnswer NoMemory) (old mid new : List ℕ) (before between after : HubSeat) (n : ℕ) → among (numbers between) n ≡ true
    → IsSubmitted event (Err x) old mid before between → IsSubmitted (NoRoom call) reply mid new between after → event ≡ event_of call outcome → Told call outcome before after
told_no_room call outcome event x (Ok a) old mid new before between after n is_mine s t is = record {
  event = NoRoom call;
  tells = tells_no_room call outcome event x old mid before between s is;
  later = before_it (NoRoom call) (Ok a) mid new between after t;
  added = λ first older d. adds_one (NoRoom call) a mid new first between after older n is_mine (adds_still event x old mid first before between older d s) t;
}
told_no_room call outcome event x (Err y) old mid new before between after n is_mine s t is = absurd (true≢false (sym t.answered.0))

-- ---- what is due is taken

-- the step answered this
both : (h : History) (a : StepAnswer) (old new : List ℕ) → old ≡ [] → Answers h TakeAsk a old new → answer h TakeAsk ≡ (a, new)
both h a old new none s = λ i. (sym s.answer i, sym (s.out ∙ ap (λ (l : List ℕ). l ++ (answer h TakeAsk).1) none) i)

-- there is a question: it was asked, and the agent was told
pub asked_next : (call conv : ℕ) (shape : Shape) (old new : List ℕ) (first before between after : HubSeat) (origin now later : Option Dialed) (faults count new_count : ℕ) (event : Event) (n : ℕ) → among (numbers before) n ≡ true → Asked first before origin now faults count
    → IsSubmitted TakeAsk (Ok (Ask call conv shape)) old new before between → old ≡ [] → (e : Exchanged call conv new shape now later count new_count event) → Told call e.outcome between after → Asked first after origin later faults new_count
asked_next call conv shape old new first before between after origin now later faults count new_count event n is_mine d s none e t =
    let h = before_it TakeAsk (Ok (Ask call conv shape)) old new before between s in
    record {
      mine = entry t.later t.event ∷ entry h TakeAsk ∷ d.mine;
      added = t.added first (entry h TakeAsk ∷ d.mine) (adds_one TakeAsk (Ask call conv shape) old new first before between d.mine n is_mine d.added s);
      calls = d.calls ++ Exchange conv new shape e.outcome ∷ [];
      asks = Exchanges d.mine d.calls h t.later call conv shape new e.outcome t.event d.asks (both h (Ask call conv shape) old new none s.answered) t.tells;
      made = made_more origin now later d.calls (Exchange conv new shape e.outcome ∷ []) d.made e.made;
      counted = e.counted ∙ ap (faults_with e.outcome) d.counted ∙ sym (one_asked d.calls conv new shape e.outcome faults);
    }

-- a connection is given up
pub closed_next : (conv : ℕ) (old new : List ℕ) (first before after : HubSeat) (origin now later : Option Dialed) (faults count new_count n : ℕ) → among (numbers before) n ≡ true → Asked first before origin now faults count → IsSubmitted TakeAsk (Ok (DropCall conv)) old new before after
    → Makes now later (Close conv) → new_count ≡ count → Asked first after origin later faults new_count
closed_next conv old new first before after origin now later faults count new_count n is_mine d s m same =
    let h = before_it TakeAsk (Ok (DropCall conv)) old new before after s in
    record {
      mine = entry h TakeAsk ∷ d.mine;
      added = adds_one TakeAsk (DropCall conv) old new first before after d.mine n is_mine d.added s;
      calls = d.calls ++ Close conv ∷ [];
      asks = Closes d.mine d.calls h conv d.asks (sym s.answered.answer);
      made = made_more origin now later d.calls (Close conv ∷ []) d.made (made_one now later (Close conv) m);
      counted = same ∙ d.counted ∙ sym (one_closed d.calls conv faults);
    }

not_handed : (a : StepAnswer) → ((conv : ℕ) → a ≡ DropCall conv → ⊥) → ((call conv : ℕ) (shape : Shape) → a ≡ Ask call conv shape → ⊥) → is_handed a ≡ false
not_handed Done drop ask = refl
not_handed Reply drop ask = refl
not_handed NoReply drop ask = refl
not_handed Gone drop ask = refl
not_handed (Ask call conv shape) drop ask = absurd (ask call conv shape refl)
not_handed (DropCall conv) drop ask = absurd (drop conv refl)
not_handed NoAsk drop ask = refl
not_handed IsStopped drop ask = refl

-- there is neither
found_none : (a : StepAnswer) (old new : List ℕ) (first before after : HubSeat) (origin now : Option Dialed) (faults count n : ℕ) → among (numbers before) n ≡ true → Asked first before origin now faults count → (s : IsSubmitted TakeAsk (Ok a) old new before after) → is_handed a ≡ false
    → (d : Asked first after origin now faults count) × LastIs a d.mine
found_none a old new first before after origin now faults count n is_mine d s none =
    let h = before_it TakeAsk (Ok a) old new before after s in (
      record {
        mine = entry h TakeAsk ∷ d.mine;
        added = adds_one TakeAsk a old new first before after d.mine n is_mine d.added s;
        calls = d.calls;
        asks = FindsNone d.mine d.calls h d.asks (ap is_handed (sym s.answered.answer) ∙ none);
        made = d.made;
        counted = d.counted;
      },
      sym s.answered.answer,
    )

pub none_next : (a : StepAnswer) (next : Result Bool AsksEnd) (old new : List ℕ) (first before after : HubSeat) (origin now : Option Dialed) (faults count n : ℕ) → among (numbers before) n ≡ true → Asked first before origin now faults count → IsSubmitted TakeAsk (Ok a) old new before after
    → ((conv : ℕ) → a ≡ DropCall conv → ⊥) → ((call conv : ℕ) (shape : Shape) → a ≡ Ask call conv shape → ⊥) → IfErr next (λ end. (end ≡ Stopped) × (a ≡ IsStopped)) → NextSo next first after origin now faults count
none_next a (Ok more) old new first before after origin now faults count n is_mine d s drop ask by = (found_none a old new first before after origin now faults count n is_mine d s (not_handed a drop ask)).0
none_next a (Err Stopped) old new first before after origin now faults count n is_mine d s drop ask by =
    let f = found_none a old new first before after origin now faults count n is_mine d s (not_handed a drop ask) in (f.0, subst (λ (b : StepAnswer). LastIs b f.0.mine) by.1 f.1)
none_next a (Err IsShort) old new first before after origin now faults count n is_mine d s drop ask by = (found_none a old new first before after origin now faults count n is_mine d s (not_handed a drop ask)).0

-- memory was short
pub asked_still : (x : NoMemory) (old new : List ℕ) (first before after : HubSeat) (origin now : Option Dialed) (faults count : ℕ) → Asked first before origin now faults count → IsSubmitted TakeAsk (Err x) old new before after → Asked first after origin now faults count
asked_still x old new first before after origin now faults count d s = record { mine = d.mine; added = adds_still TakeAsk x old new first before after d.mine d.added s; calls = d.calls; asks = d.asks; made = d.made; counted = d.counted }
