-- For which events memory is never short.
use Rattle.std.proofs.Common.{◌≡◌, ℕ, List, [], ◌∷◌, length, filter, Bool, true, false, cond, not, ◌||◌, Option, Some, None, refl, true≢false, sym, ap, ◌∙◌, inl, inr}
use Rattle.std.specs.Prelude.{find, is_some, nat_lt}
use Rattle.std.proofs.lemmas.Bool.{cases_Bool}
use Rattle.agent_history.specs.declared.event.Event.{Event}
use Rattle.agent_history.specs.declared.event.Event.TheVariants.{Request, Hang, Answer, NoAnswer, NoRoom, Take, TakeAsk, Stop}
use Rattle.agent_history.specs.Deeds.{was_opened}
use Rattle.agent_history.specs.Conversations.{Drop, Question, due, drops, due_of, next_question, questions}
use Rattle.agent_history.specs.Histories.{History, answer, deeds, is_reply}
use Rattle.agent_core.specs.declared.agent.Running.{Running}
use Rattle.agent_core.specs.declared.agent.State.{State}
use Rattle.agent_core.specs.declared.agent.State.TheVariants.{Runs, Stopped}
use Rattle.agent_core.specs.declared.agent.Agent.{Agent}
use Rattle.agent_core.specs.Events.{Known, Unknown, Live, HungUp, FindsNone, gives_reply, is_opened_at, is_some_left}
use Rattle.agent_core.specs.Agents.{RunsAfter, StandsBy, StandsFor, TakesNone, TakesNoneIn, connection_at, replies_in}
use Rattle.agent_core.proofs.AgentSteps.{gives_told}
use Rattle.agent_hub.specs.Submits.{is_due, takes_memory}

-- ---- a take that finds nothing

none_left : (replies : List (List ℕ)) → is_some_left replies ≡ false → replies ≡ []
none_left [] e = refl
none_left (frame ∷ frames) e = absurd (true≢false e)

finds_none : (k : Known) (replies : List (List ℕ)) → is_opened_at k ≡ true → gives_reply k replies ≡ false → FindsNone k replies
finds_none Unknown replies opened none = absurd (true≢false (sym opened))
finds_none (Live c) replies opened none = none_left replies none
finds_none HungUp replies opened none = tt

neither : (a b : Bool) → (not a || b) ≡ false → (a ≡ true) × (b ≡ false)
neither true b e = (refl, e)
neither false b e = absurd (true≢false e)

take_finds_none : (H : History) (conn : ℕ) (r : Running) → RunsAfter H r → takes_memory H (Take conn) ≡ false → TakesNoneIn (Take conn) (Runs r)
take_finds_none H conn r h none =
    let both = neither (was_opened (deeds H) conn) (is_reply (answer H (Take conn)).0) none in
    finds_none (connection_at r conn) (replies_in (Runs r) conn) ((h.lives.connections conn).opened ∙ both.0) (gives_told H conn (Runs r) h ∙ both.1)

-- ---- nothing is due

no_question : (qs : List Question) → find (λ q. not q.handed) qs ≡ None → length (filter (λ q. not q.handed) qs) ≡ 0
no_question [] e = refl
no_question (q ∷ more) e = here (not q.handed) refl (no_question more) e
  where
    here : (fresh : Bool) → not q.handed ≡ fresh → (find (λ q. not q.handed) more ≡ None → length (filter (λ q. not q.handed) more) ≡ 0) → cond fresh (Some q) (find (λ q. not q.handed) more) ≡ None → length (cond fresh (q ∷ filter (λ q. not q.handed) more) (filter (λ q. not q.handed) more)) ≡ 0
    here true is later f = absurd (let s : true ≡ false = ap is_some f in true≢false s)
    here false is later f = later f

none_due : (ds : List Drop) (next : Option Question) → is_due (due_of ds next) ≡ false → next ≡ None
none_due [] None e = refl
none_due [] (Some q) e = absurd (true≢false e)
none_due (d ∷ more) None e = absurd (true≢false e)
none_due (d ∷ more) (Some q) e = elim (cases_Bool (nat_lt d.behind q.call)) [
  | inl first ↦ absurd (true≢false (rw first at e))
  | inr other ↦ absurd (true≢false (rw other at e))
]

ask_finds_none : (H : History) (r : Running) → RunsAfter H r → takes_memory H TakeAsk ≡ false → TakesNoneIn TakeAsk (Runs r)
ask_finds_none H r h none =
    let free : is_due (due (deeds H)) ≡ false = rw h.running at none in
    ap (λ (qs : List Question). length (filter (λ q. not q.handed) qs)) h.lives.shares.talks.tells.talks.speak.questions ∙ no_question (questions (deeds H)) (none_due (drops (deeds H)) (next_question (deeds H)) free)

takes_none_in : (H : History) (event : Event) (state : State) → StandsBy H state → takes_memory H event ≡ false → TakesNoneIn event state
takes_none_in H event Stopped h none = tt
takes_none_in H (Request conn frame word) (Runs r) h none = absurd (true≢false none)
takes_none_in H (Hang conn) (Runs r) h none = tt
takes_none_in H (Answer call bytes) (Runs r) h none = absurd (true≢false none)
takes_none_in H (NoAnswer call) (Runs r) h none = tt
takes_none_in H (NoRoom call) (Runs r) h none = tt
takes_none_in H (Take conn) (Runs r) h none = take_finds_none H conn r h none
takes_none_in H TakeAsk (Runs r) h none = ask_finds_none H r h none
takes_none_in H Stop (Runs r) h none = tt

pub takes_none : (H : History) (event : Event) (agent : Agent) → StandsFor H agent → takes_memory H event ≡ false → TakesNone event agent
takes_none H event agent h none = takes_none_in H event agent.state h.stands none
