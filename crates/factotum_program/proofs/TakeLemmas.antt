-- Taking until there is no reply.
use Rattle.std.proofs.Common.{◌≡◌, ℕ, zero, suc, ◌+◌, ◌-◌, ◌<◌, ◌≤◌, List, [], ◌∷◌, ◌++◌, length, drop, Option, Some, None, append_assoc, append-nil, Bool, true, false, cond, ltb, refl, sym, ap, subst, ◌∙◌, inl, inr, arith}
use Rattle.std.proofs.lemmas.Bool.{cases_Bool}
use Rattle.nine.specs.declared.message.RMsg.{RMsg}
use Rattle.agent_history.specs.declared.event.Event.TheVariants.{Request, Take}
use Rattle.agent_history.specs.declared.event.StepAnswer.{StepAnswer}
use Rattle.agent_history.specs.declared.event.StepAnswer.TheVariants.{Done, Reply, NoReply, Gone, Ask, DropCall, NoAsk, Stopped}
use Rattle.agent_history.specs.Deeds.{Deed, Halted, was_opened, was_hung, is_halted}
use Rattle.agent_history.specs.Replies.{untaken}
use Rattle.agent_history.specs.Histories.{History, most_events, deeds, entered, taking, answer, first_reply, is_reply}
use Rattle.mailboxes.proofs.DeliveryLemmas.{untaken_taken}
use Rattle.agent_core.specs.declared.agent.Agent.{Agent}
use Rattle.agent_core.specs.declared.agent.State.{State}
use Rattle.agent_core.specs.declared.agent.State.TheVariants.{Runs, Stopped}
use Rattle.agent_core.specs.Events.{Known, Unknown, Live, HungUp, SameAt, gives_reply, is_some_left}
use Rattle.agent_core.specs.Agents.{StandsFor, SameState, SameAgent, connection_at, replies_in, gives_in, kept_replies}
use Rattle.wire_streams.specs.declared.dialer.Outcome.{Outcome}
use Rattle.factotum_program.specs.Pipe.{Turn, take_while, after_turn, asked_in, text_of, turn_of}
use Rattle.factotum_program.specs.Gathers.{Gathers}
use Rattle.factotum_program.proofs.AskLemmas.{asks_text}

-- where a loop of takes stands: some takes after the history, as many left to make as were said, and what was told
pub record Going (H : History) (n : ℕ) (agent : Agent) (origin held : Option (List ℕ)) (gathered : List ℕ) : Type 0 where
  pub history : History
  pub left : ℕ
  pub stands : StandsFor history agent
  pub enough : length (untaken (deeds history) 0) ≤ left
  pub same : take_while left history ≡ take_while n H
  pub told : Gathers origin held gathered (text_of history)

first_left : (ms : List RMsg) → (first_reply ms).0 ≡ Reply → length (drop 1 ms) + 1 ≡ length ms
first_left [] e = absurd (cc)
first_left (m ∷ ms) e = omega arith

untaken_entered : (done : List Deed) → untaken (entered 0 done) 0 ≡ untaken done 0
untaken_entered done = elim (cases_Bool (was_opened done 0)) [
  | inl is ↦ rw is refl
  | inr is ↦ rw is refl
]

-- the deeds of a take, which the last event may end with a stop
take_left : (done : List Deed) (ms : List RMsg) (last : Bool) → untaken done 0 ≡ ms → (first_reply ms).0 ≡ Reply
    → length (untaken (cond last (taking 0 ms (entered 0 done)) (Halted ∷ taking 0 ms (entered 0 done))) 0) + 1 ≡ length ms
take_left done [] last is e = absurd (cc)
take_left done (m ∷ ms) true is e = ap (λ (rs : List RMsg). length rs + 1) (untaken_taken (entered 0 done) 0 ∙ ap (drop 1) (untaken_entered done ∙ is)) ∙ first_left (m ∷ ms) refl
take_left done (m ∷ ms) false is e = ap (λ (rs : List RMsg). length rs + 1) (untaken_taken (entered 0 done) 0 ∙ ap (drop 1) (untaken_entered done ∙ is)) ∙ first_left (m ∷ ms) refl

-- a take that found a reply leaves one less
reply_left : (K : History) → (answer K (Take 0)).0 ≡ Reply → length (untaken (deeds (Take 0 ∷ K)) 0) + 1 ≡ length (untaken (deeds K) 0)
reply_left K e = elim (cases_Bool (is_halted (deeds K))) [
  | inl stopped ↦ absurd (let h : Gone ≡ Reply = (rw stopped at e) in (cc))
  | inr runs ↦ elim (cases_Bool (was_hung (deeds K) 0)) [
    | inl hung ↦ absurd (let h : Gone ≡ Reply = (rw (runs, hung) at e) in (cc))
    | inr live ↦ rw (runs, live) (take_left (deeds K) (untaken (deeds K) 0) (ltb (length K + 1) most_events) refl (rw (runs, live) at e))
  ]
]

until_more : (m : ℕ) (K : History) → 0 < m → is_reply (answer K (Take 0)).0 ≡ true → take_while m K ≡ take_while (m - 1) (Take 0 ∷ K)
until_more zero K lt e = absurd (omega arith)
until_more (suc m) K lt e = rw e (ap (λ (k : ℕ). take_while k (Take 0 ∷ K)) (omega arith))

until_ends : (m : ℕ) (K : History) → is_reply (answer K (Take 0)).0 ≡ false → take_while m K ≡ K
until_ends zero K e = refl
until_ends (suc m) K e = rw e refl

is_reply-true : (a : StepAnswer) → is_reply a ≡ true → a ≡ Reply
is_reply-true Done e = absurd (cc)
is_reply-true Reply e = refl
is_reply-true NoReply e = absurd (cc)
is_reply-true Gone e = absurd (cc)
is_reply-true (Ask call conv shape) e = absurd (cc)
is_reply-true (DropCall conv) e = absurd (cc)
is_reply-true NoAsk e = absurd (cc)
is_reply-true Stopped e = absurd (cc)

pub going_more : (H : History) (n : ℕ) (old new : Agent) (origin before after : Option (List ℕ)) (some more : List ℕ) → (g : Going H n old origin before some) → is_reply (answer g.history (Take 0)).0 ≡ true → Gathers origin after more (text_of (Take 0 ∷ g.history)) → StandsFor (Take 0 ∷ g.history) new
    → Going H n new origin after more
going_more H n old new origin before after some more g is told stands =
    let less = reply_left g.history (is_reply-true (answer g.history (Take 0)).0 is) in
    record {
      history = Take 0 ∷ g.history;
      left = g.left - 1;
      stands = stands;
      enough = omega (arith, less, g.enough);
      same = sym (until_more g.left g.history (omega (arith, less, g.enough)) is) ∙ g.same;
      told = told;
    }

pub going_ends : (H : History) (n : ℕ) (agent : Agent) (origin held : Option (List ℕ)) (gathered : List ℕ) → (g : Going H n agent origin held gathered) → is_reply (answer g.history (Take 0)).0 ≡ false → StandsFor (take_while n H) agent × Gathers origin held gathered (text_of (take_while n H))
going_ends H n agent origin held gathered g none =
    let end : take_while n H ≡ g.history = sym g.same ∙ until_ends g.left g.history none in
    rw end (g.stands, g.told)

-- takes put out behind what was put out
until_grows : (n : ℕ) (H : History) → (more : List ℕ) × (text_of (take_while n H) ≡ text_of H ++ more)
until_grows zero H = ([], sym (append-nil (text_of H)))
until_grows (suc n) H = elim (cases_Bool (is_reply (answer H (Take 0)).0)) [
  | inl more ↦ let rest = until_grows n (Take 0 ∷ H) in ((answer H (Take 0)).1 ++ rest.0, rw more (rest.1 ∙ append_assoc (text_of H) (answer H (Take 0)).1 rest.0))
  | inr none ↦ ([], rw none (sym (append-nil (text_of H))))
]

-- a frame puts out behind what was put out
pub turn_grows : (H : History) (turn : Turn) → (more : List ℕ) × (text_of (after_turn H turn) ≡ text_of H ++ more)
unfolding after_turn
turn_grows H turn =
    let asked : History = (asked_in H turn).history in
    let rest = until_grows (length (untaken (deeds asked) 0)) asked in
    (rest.0, rest.1 ∙ ap (λ (t : List ℕ). t ++ rest.0) (asks_text turn.heard (Request 0 turn.frame turn.word ∷ H)))

-- what is asked for a frame is no reply
pub turn_told : (H : History) (frame word : List ℕ) (heard : List Outcome) (origin held : Option (List ℕ)) (gathered : List ℕ) → Gathers origin held gathered (text_of H)
    → Gathers origin held gathered (text_of (asked_in H (turn_of frame word heard)).history)
turn_told H frame word heard origin held gathered g = subst (λ (t : List ℕ). Gathers origin held gathered t) (sym (asks_text heard (Request 0 frame word ∷ H))) g

-- what the first of the takes that are left puts out stands in front of what all of them do
pub going_grows : (H : History) (n : ℕ) (agent : Agent) (origin held : Option (List ℕ)) (gathered : List ℕ) → (g : Going H n agent origin held gathered) → is_reply (answer g.history (Take 0)).0 ≡ true → (more : List ℕ) × (text_of (take_while n H) ≡ text_of (Take 0 ∷ g.history) ++ more)
going_grows H n agent origin held gathered g is =
    let less = reply_left g.history (is_reply-true (answer g.history (Take 0)).0 is) in
    let rest = until_grows (g.left - 1) (Take 0 ∷ g.history) in
    (rest.0, ap text_of (sym g.same ∙ until_more g.left g.history (omega (arith, less, g.enough)) is) ∙ rest.1)

-- ---- an agent that is the same gives the same

same_reply : (old new : Known) (some more : List (List ℕ)) → SameAt old new → more ≡ some → gives_reply new more ≡ gives_reply old some
same_reply Unknown Unknown some more same e = ap is_some_left e
same_reply Unknown (Live c) some more same e = ap is_some_left e
same_reply Unknown HungUp some more same e = absurd same
same_reply (Live c) Unknown some more same e = absurd same
same_reply (Live c) (Live d) some more same e = ap is_some_left e
same_reply (Live c) HungUp some more same e = absurd same
same_reply HungUp Unknown some more same e = absurd same
same_reply HungUp (Live c) some more same e = absurd same
same_reply HungUp HungUp some more same e = refl

same_replies : (old new : State) (conn : ℕ) → SameState old new → replies_in new conn ≡ replies_in old conn
same_replies Stopped Stopped conn same = refl
same_replies Stopped (Runs new) conn same = absurd same
same_replies (Runs old) Stopped conn same = absurd same
same_replies (Runs old) (Runs new) conn same = same.shared.mail.replies conn

same_gives : (old new : State) (conn : ℕ) → SameState old new → gives_in (Take conn) new ≡ gives_in (Take conn) old
same_gives Stopped Stopped conn same = refl
same_gives Stopped (Runs new) conn same = absurd same
same_gives (Runs old) Stopped conn same = absurd same
same_gives (Runs old) (Runs new) conn same = same_reply (connection_at old conn) (connection_at new conn) (replies_in (Runs old) conn) (replies_in (Runs new) conn) (same.connections conn) (same.shared.mail.replies conn)

pub still_gives : (old new : Agent) → SameAgent old new → gives_in (Take 0) old.state ≡ true → gives_in (Take 0) new.state ≡ true
still_gives old new same gives = same_gives old.state new.state 0 same.state ∙ gives

-- a take of such an agent leaves fewer replies than there were before
pub still_fewer : (old new : Agent) (count : ℕ) → SameAgent old new → count < kept_replies new 0 → count < kept_replies old 0
still_fewer old new count same fewer = omega (arith, fewer, ap length (same_replies old.state new.state 0 same.state))
