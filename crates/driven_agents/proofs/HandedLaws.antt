-- The questions that come of an event are those that weren't handed out behind it, in their order, each with the bytes that
-- its conversation needs; a connection that is given up on the way is none; and nothing is left to be handed out.
use Rattle.std.proofs.Common.{◌≡◌, ℕ, zero, suc, ◌<◌, List, [], ◌∷◌, ◌++◌, length, drop, map, Bool, true, false, cond, ltb, ◌&&◌, not, Option, Some, None, ◌⊎◌, inl, inr, refl, sym, ap, subst, ◌∙◌, arith}
use Rattle.std.specs.Prelude.{filter, find}
use Rattle.std.proofs.lemmas.Bool.{and_parts}
use Rattle.wire_base.specs.declared.shape.Shape.{Shape}
use Rattle.roles.specs.declared.need.Need.{Need}
use Rattle.roles.specs.declared.need.Need.TheVariants.{Nothing, Key, Offers, Pick, Exchange}
use Rattle.roles.specs.Answers.{IsExchange}
use Rattle.talks.specs.Standings.{Phase, Resting, Waiting, Seeking, OnConfirm, OnNeedkey, OnServer, Kept, question_of}
use Rattle.agent_history.specs.declared.event.Event.{Event}
use Rattle.agent_history.specs.declared.event.Event.TheVariants.{TakeAsk}
use Rattle.agent_history.specs.declared.event.StepAnswer.TheVariants.{Ask, Stopped}
use Rattle.agent_history.specs.Deeds.{Deed, DropTaken, HandedOut, was_opened}
use Rattle.agent_history.specs.Conversations.{Drop, Due, DropDue, NoneDue, Question, QuestionDue, drops, due, due_of, hand_first, next_question, questions, standing_of, stands, talk}
use Rattle.agent_history.specs.Histories.{Answer, History, answer, asks, deeds, handing, put_out}
use Rattle.agent_laws.specs.Laws.{asks_server, is_on_server}
use Rattle.agent_laws.proofs.GrowLaws.{all_are_asked}
use Rattle.world_history.specs.declared.question.Question.{Question as Put}
use Rattle.world_history.specs.Driving.{all_taken, ask_up, asked_up, asks_of, drive, hands_out, left_to_hand, question_in, questions_to}
use Rattle.driven_agents.specs.Idle.{Runs}
use Rattle.driven_agents.proofs.AskedLemmas.{needs_exchange}
use Rattle.driven_agents.proofs.FoundLemmas.{found_passes}
use Rattle.driven_agents.proofs.KeptLaws.{KeepsTakes, behind_replies}
use Rattle.driven_agents.proofs.RunLaws.{ask_runs, going, runs_before}

-- the bytes of an exchange
abbrev pub bytes_of : Need → List ℕ
bytes_of (Exchange request shape) = request
bytes_of (Key template) = []
bytes_of (Offers template) = []
bytes_of (Pick templates) = []
bytes_of Nothing = []

-- a question as it is put out
abbrev pub put_by : List Deed → Question → Put
put_by done q = record { call = q.call; bytes = bytes_of (question_of (standing_of done q.conv)) }

abbrev pub unhanded : List Question → List Question
unhanded qs = filter (λ q. not q.handed) qs

-- those that weren't handed out, in order
abbrev pub to_put : List Deed → List Put
to_put done = map (put_by done) (unhanded (questions done))

-- ---- what is due

abbrev DueIs : List Drop → Option Question → Type 0
DueIs dropped next =
    ((dropped ≡ []) × (next ≡ None) × (due_of dropped next ≡ NoneDue))
    ⊎ (((x : Drop) × (more : List Drop) × (dropped ≡ x ∷ more) × (due_of dropped next ≡ DropDue x))
    ⊎ ((q : Question) × (next ≡ Some q) × (due_of dropped next ≡ QuestionDue q)))

which_first : (b : Bool) (x : Drop) (more : List Drop) (q : Question) → ltb x.behind q.call ≡ b → DueIs (x ∷ more) (Some q)
which_first true x more q is = inr (inl (x, more, refl, ap (λ b. cond b (DropDue x) (QuestionDue q)) is))
which_first false x more q is = inr (inr (q, refl, ap (λ b. cond b (DropDue x) (QuestionDue q)) is))

due_is : (dropped : List Drop) (next : Option Question) → DueIs dropped next
due_is [] None = inl (refl, refl, refl)
due_is [] (Some q) = inr (inr (q, refl, refl))
due_is (x ∷ more) None = inr (inl (x, more, refl, refl))
due_is (x ∷ more) (Some q) = which_first (ltb x.behind q.call) x more q refl

-- ---- the first that wasn't handed out

first_step : (h : Bool) (q next : Question) (qs : List Question) → q.handed ≡ h → cond (not q.handed) (Some q) (find (λ q. not q.handed) qs) ≡ Some next
    → (find (λ q. not q.handed) qs ≡ Some next → unhanded qs ≡ next ∷ unhanded (hand_first qs))
    → cond (not q.handed) (q ∷ unhanded qs) (unhanded qs) ≡ next ∷ unhanded (cond q.handed (q ∷ hand_first qs) (record { call = q.call; conv = q.conv; handed = true } ∷ qs))
first_step true q next qs is found more =
    ap (λ b. cond (not b) (q ∷ unhanded qs) (unhanded qs)) is
    ∙ (more (ap (λ b. cond (not b) (Some q) (find (λ q. not q.handed) qs)) (sym is) ∙ found)
    ∙ (ap (λ b. next ∷ cond (not b) (q ∷ unhanded (hand_first qs)) (unhanded (hand_first qs))) (sym is)
    ∙ ap (λ b. next ∷ unhanded (cond b (q ∷ hand_first qs) (record { call = q.call; conv = q.conv; handed = true } ∷ qs))) (sym is)))
first_step false q next qs is found more =
    let same : q ≡ next = cc (ap (λ b. cond (not b) (Some q) (find (λ q. not q.handed) qs)) (sym is) ∙ found) in
    ap (λ b. cond (not b) (q ∷ unhanded qs) (unhanded qs)) is
    ∙ (ap (λ x. x ∷ unhanded qs) same
    ∙ ap (λ b. next ∷ unhanded (cond b (q ∷ hand_first qs) (record { call = q.call; conv = q.conv; handed = true } ∷ qs))) (sym is))

first_unhanded : (qs : List Question) (next : Question) → find (λ q. not q.handed) qs ≡ Some next → unhanded qs ≡ next ∷ unhanded (hand_first qs)
first_unhanded [] next found = absurd cc
first_unhanded (q ∷ qs) next found = first_step q.handed q next qs refl found (first_unhanded qs next)

none_step : (h : Bool) (q : Question) (qs : List Question) → q.handed ≡ h → cond (not q.handed) (Some q) (find (λ q. not q.handed) qs) ≡ None → (find (λ q. not q.handed) qs ≡ None → unhanded qs ≡ []) → cond (not q.handed) (q ∷ unhanded qs) (unhanded qs) ≡ []
none_step true q qs is none more = ap (λ b. cond (not b) (q ∷ unhanded qs) (unhanded qs)) is ∙ more (ap (λ b. cond (not b) (Some q) (find (λ q. not q.handed) qs)) (sym is) ∙ none)
none_step false q qs is none more = absurd (cc (ap (λ b. cond (not b) (Some q) (find (λ q. not q.handed) qs)) (sym is) ∙ none))

pub none_unhanded : (qs : List Question) → find (λ q. not q.handed) qs ≡ None → unhanded qs ≡ []
none_unhanded [] none = refl
none_unhanded (q ∷ qs) none = none_step q.handed q qs refl none (none_unhanded qs)

-- ---- a question that is due is put out

pub on_server : (phase : Phase) → is_on_server phase ≡ true → phase ≡ OnServer
on_server OnServer is = refl
on_server Resting is = absurd cc
on_server (Waiting request) is = absurd cc
on_server Seeking is = absurd cc
on_server (OnConfirm serial) is = absurd cc
on_server OnNeedkey is = absurd cc
on_server (Kept answer) is = absurd cc

put_so : (q : Question) (need : Need) → IsExchange need → (shape : Shape) × (asks q need ≡ (Ask q.call q.conv shape, bytes_of need))
put_so q (Exchange request shape) is = (shape, refl)
put_so q (Key template) is = absurd is
put_so q (Offers template) is = absurd is
put_so q (Pick templates) is = absurd is
put_so q Nothing is = absurd is

next_put : (h : History) (q : Question) → next_question (deeds h) ≡ Some q → (shape : Shape) × (asks q (question_of (standing_of (deeds h) q.conv)) ≡ (Ask q.call q.conv shape, bytes_of (question_of (standing_of (deeds h) q.conv))))
next_put h q is =
    let done = deeds h in
    let there = (found_passes (λ x. stands done x.conv && asks_server done x.conv) (λ x. not x.handed) (questions done) q is (all_are_asked h)).0 in
    put_so q (question_of (standing_of done q.conv)) (needs_exchange (talk done q.conv) (on_server (standing_of done q.conv).phase (and_parts (stands done q.conv) (asks_server done q.conv) there).1))

-- ---- takes

pub record AskedSo (n : ℕ) (h : History) (all : List Put) : Type 0 where
  pub put : asked_up n h ≡ all
  pub dropped : drops (deeds (ask_up n h)) ≡ []
  pub none : next_question (deeds (ask_up n h)) ≡ None

-- behind a take that was answered so
abbrev StepSo : ℕ → History → Answer → Type 0
StepSo n h a =
    Runs (cond (hands_out a.0) (ask_up n (TakeAsk ∷ h)) (TakeAsk ∷ h))
    → (cond (hands_out a.0) (question_in a ++ asked_up n (TakeAsk ∷ h)) [] ≡ to_put (deeds h))
    × (drops (deeds (cond (hands_out a.0) (ask_up n (TakeAsk ∷ h)) (TakeAsk ∷ h))) ≡ [])
    × (next_question (deeds (cond (hands_out a.0) (ask_up n (TakeAsk ∷ h)) (TakeAsk ∷ h))) ≡ None)

-- what follows on such a take
abbrev Later : ℕ → History → Type 0
Later n h = Runs (ask_up n (TakeAsk ∷ h)) → left_to_hand (deeds (TakeAsk ∷ h)) < n → AskedSo n (TakeAsk ∷ h) (to_put (deeds (TakeAsk ∷ h)))

-- the deeds behind it
takes_ask : (h : History) (d : Due) → Runs (TakeAsk ∷ h) → due (deeds h) ≡ d → deeds (TakeAsk ∷ h) ≡ handing d (deeds h)
takes_ask h d runs is = (going TakeAsk h runs).now ∙ ap (λ d. handing d (deeds h)) is

answers_due : (h : History) (d : Due) → Runs h → due (deeds h) ≡ d → answer h TakeAsk ≡ put_out (deeds h) d
answers_due h d runs is = ap (λ b. cond b (Stopped, []) (put_out (deeds h) (due (deeds h)))) runs ∙ ap (put_out (deeds h)) is

none_due : (n : ℕ) (h : History) → Runs (TakeAsk ∷ h) → drops (deeds h) ≡ [] → next_question (deeds h) ≡ None → due (deeds h) ≡ NoneDue → StepSo n h (answer h TakeAsk)
none_due n h runs dropped none is =
    let same = takes_ask h NoneDue runs is in
    subst (StepSo n h) (sym (answers_due h NoneDue (runs_before TakeAsk h runs) is)) (λ r. (sym (ap (map (put_by (deeds h))) (none_unhanded (questions (deeds h)) none)), ap drops same ∙ dropped, ap next_question same ∙ none))

drop_due : (n : ℕ) (h : History) (x : Drop) (more : List Drop) → Runs (TakeAsk ∷ h) → drops (deeds h) ≡ x ∷ more → due (deeds h) ≡ DropDue x → left_to_hand (deeds h) < suc n → Later n h → StepSo n h (answer h TakeAsk)
drop_due n h x more runs dropped is few later =
    let same = takes_ask h (DropDue x) runs is in
    let fewer : left_to_hand (DropTaken ∷ deeds h) < n = omega (arith, few, ap length dropped, ap (λ xs. length (drop 1 xs)) dropped) in
    subst (StepSo n h) (sym (answers_due h (DropDue x) (runs_before TakeAsk h runs) is))
    (λ r. let so = later r (subst (λ done. left_to_hand done < n) (sym same) fewer) in (so.put ∙ ap to_put same, so.dropped, so.none))

question_due : (n : ℕ) (h : History) (q : Question) → Runs (TakeAsk ∷ h) → next_question (deeds h) ≡ Some q → due (deeds h) ≡ QuestionDue q → left_to_hand (deeds h) < suc n → Later n h → StepSo n h (answer h TakeAsk)
question_due n h q runs next is few later =
    let done = deeds h in
    let same = takes_ask h (QuestionDue q) runs is in
    let first = first_unhanded (questions done) q next in
    let put = next_put h q next in
    let fewer : left_to_hand (HandedOut ∷ done) < n = omega (arith, few, ap length first) in
    subst (StepSo n h) (sym (answers_due h (QuestionDue q) (runs_before TakeAsk h runs) is ∙ put.1))
    (λ r.
    let so = later r (subst (λ done. left_to_hand done < n) (sym same) fewer) in
    (ap (λ all. put_by done q ∷ all) (so.put ∙ ap to_put same) ∙ sym (ap (map (put_by done)) first), so.dropped, so.none))

step_so : (n : ℕ) (h : History) → Runs (TakeAsk ∷ h) → left_to_hand (deeds h) < suc n → Later n h → StepSo n h (answer h TakeAsk)
step_so n h runs few later = elim (due_is (drops (deeds h)) (next_question (deeds h))) [
  | inl none ↦ none_due n h runs none.0 none.1 none.2
  | inr some ↦ elim some [
    | inl d ↦ drop_due n h d.0 d.1 runs d.2 d.3 few later
    | inr q ↦ question_due n h q.0 runs q.1 q.2 few later
  ]
]

asks_all : (n : ℕ) (h : History) → Runs (ask_up n h) → left_to_hand (deeds h) < n → AskedSo n h (to_put (deeds h))
asks_all zero h runs few = absurd (omega arith)
asks_all (suc n) h runs few =
    let so = step_so n h (ask_runs n h runs) few (λ r f. asks_all n (TakeAsk ∷ h) r f) runs in
    record { put = so.0; dropped = so.1; none = so.2 }

-- ---- those that follow an event

same_put : (before : List Put) → KeepsTakes (λ done. to_put done ≡ before)
same_put before = record { takes = λ done same. same }

asked_behind : (e : Event) (h : History) → Runs (drive e h) → AskedSo (asks_of (all_taken (e ∷ h))) (all_taken (e ∷ h)) (to_put (deeds (all_taken (e ∷ h))))
unfolding drive
asked_behind e h runs = asks_all (asks_of (all_taken (e ∷ h))) (all_taken (e ∷ h)) runs (omega arith)

pub questions_so : (e : Event) (h : History) → Runs (drive e h) → was_opened (deeds (e ∷ h)) 0 ≡ true → questions_to e h ≡ to_put (deeds (e ∷ h))
unfolding questions_to
questions_so e h runs open_ = (asked_behind e h runs).put ∙ behind_replies (λ done. to_put done ≡ to_put (deeds (e ∷ h))) (same_put (to_put (deeds (e ∷ h)))) e h runs open_ refl

pub none_dropped : (e : Event) (h : History) → Runs (drive e h) → drops (deeds (drive e h)) ≡ []
unfolding drive
none_dropped e h runs = (asked_behind e h runs).dropped

pub none_handed : (e : Event) (h : History) → Runs (drive e h) → next_question (deeds (drive e h)) ≡ None
unfolding drive
none_handed e h runs = (asked_behind e h runs).none
