-- What is told of a history after one more event that doesn't stop the agent.
use Rattle.std.proofs.Common.{◌≡◌, ◌≢◌, ℕ, ◌+◌, ◌<◌, List, [], ◌∷◌, map, Bool, true, false, not, ◌&&◌, length, refl, sym, ap, cond, subst, ◌∙◌, inl, inr, arith}
use Rattle.std.specs.Prelude.{nat_lt}
use Rattle.std.proofs.lemmas.Bool.{cases_Bool, lt-ltb, false≢true}
use Rattle.agent_history.specs.declared.event.Event.{Event}
use Rattle.nine.specs.declared.message.RMsg.{RMsg}
use Rattle.nine.specs.Messages.{r_frame}
use Rattle.agent_history.specs.Deeds.{Deed, Halted, is_halted, was_hung}
use Rattle.agent_history.specs.Replies.{untaken}
use Rattle.mailboxes.specs.Deliveries.{replies_at}
use Rattle.agent_requests.specs.declared.connection.Connection.{Connection}
use Rattle.agent_requests.specs.Connections.{IsFresh, Keeps, is_opened}
use Rattle.agent_requests.proofs.KeepLemmas.{keeps_still}
use Rattle.agent_requests.proofs.ShareLemmas.{shares_still}
use Rattle.agent_history.specs.Histories.{History, has_stopped, most_events, deeds, does, answer, first_reply, is_reply}
use Rattle.agent_history.specs.declared.event.Event.TheVariants.{Request, Hang, Answer, NoAnswer, NoRoom, Take, TakeAsk, Stop}
use Rattle.agent_core.specs.declared.agent.State.{State}
use Rattle.agent_core.specs.declared.agent.State.TheVariants.{Runs, Stopped}
use Rattle.agent_core.specs.declared.agent.Running.{Running}
use Rattle.agent_core.specs.Events.{Known, Unknown, Live, HungUp, KeepsNothing, Lives, LivesOn, SameAt, Stands, is_hung_at, is_stop, gives_reply, is_some_left}
use Rattle.agent_core.specs.Agents.{Ends, GoesOn, RunsAfter, SameRunning, StandsBy, TakesOneIn, connection_at, replies_in, gives_in}
use Rattle.agent_core.proofs.EventSteps.{runs_on}

pub goes_on : (H : History) (event : Event) (count : ℕ) → has_stopped H ≡ false → count ≡ length H → count < most_events → count + 1 ≢ most_events → deeds (event ∷ H) ≡ does (deeds H) event
goes_on H event count running counted few more =
    let below : length H + 1 < most_events = omega (arith, counted, few, more) in
    rw (running, lt-ltb (length H + 1) most_events below) refl

-- a take that gave a reply leaves fewer
pub takes_fewer : (conn : ℕ) (old new : State) → TakesOneIn (Take conn) old new → length (replies_in new conn) < length (replies_in old conn)
takes_fewer conn (Runs old) (Runs new) one = omega (arith, one)
takes_fewer conn (Runs old) Stopped had = had
takes_fewer conn Stopped new none = absurd none

pub runs_still : (H : History) (event : Event) → has_stopped H ≡ false → is_stop event ≡ false → deeds (event ∷ H) ≡ does (deeds H) event → has_stopped (event ∷ H) ≡ false
runs_still H event running no_stop next = ap is_halted next ∙ runs_on (deeds H) event running no_stop

-- ---- whether a take is answered by a reply

gives_by : (k : Known) (replies : List (List ℕ)) (hung : Bool) → is_hung_at k ≡ hung → gives_reply k replies ≡ (not hung && is_some_left replies)
gives_by k replies hung e = ap (λ (b : Bool). not b && is_some_left replies) e

left_is : (ms : List RMsg) (replies : List (List ℕ)) → replies ≡ map r_frame ms → is_some_left replies ≡ is_reply (first_reply ms).0
left_is [] replies e = ap is_some_left e
left_is (m ∷ ms) replies e = ap is_some_left e

pub gives_told : (H : History) (conn : ℕ) (state : State) → StandsBy H state → gives_in (Take conn) state ≡ is_reply (answer H (Take conn)).0
gives_told H conn Stopped h = rw h refl
gives_told H conn (Runs r) h =
    let s = h.lives.connections conn in
    elim (cases_Bool (was_hung (deeds H) conn)) [
      | inl hung ↦ rw (h.running, hung) (gives_by (connection_at r conn) (replies_at r.shared.mailboxes conn) true (s.hung ∙ hung))
      | inr live ↦ rw (h.running, live) (gives_by (connection_at r conn) (replies_at r.shared.mailboxes conn) false (s.hung ∙ live)
          ∙ left_is (untaken (deeds H) conn) (replies_at r.shared.mailboxes conn) (h.lives.shares.mail.mails conn live).replies)
    ]

-- ---- after want of memory

fresh_keeps : (done : List Deed) (q : ℕ) (c : Connection) → IsFresh c → KeepsNothing done q → Keeps done q c
fresh_keeps done q c fresh k = record {
  live = k.live;
  msize = rw fresh.phase (sym k.msize);
  fids = λ fid. rw (fresh.fids, k.fids fid) refl;
  held = rw (fresh.fids, k.held) refl;
  texts = λ fid. rw (fresh.texts fid, k.texts fid) refl;
}

pub stands_still : (done : List Deed) (q : ℕ) (o p : Known) → SameAt o p → Stands done q o → Stands done q p
stands_still done q Unknown Unknown same s = s
stands_still done q Unknown (Live c) fresh s = record { opened = rw fresh.phase s.opened; hung = s.hung; keeps = λ live. fresh_keeps done q c fresh (s.keeps live) }
stands_still done q Unknown HungUp same s = absurd same
stands_still done q (Live c) Unknown same s = absurd same
stands_still done q (Live c) (Live d) same s = record { opened = ap is_opened same.phase ∙ s.opened; hung = s.hung; keeps = λ live. keeps_still done q c d same (s.keeps live) }
stands_still done q (Live c) HungUp same s = absurd same
stands_still done q HungUp Unknown same s = absurd same
stands_still done q HungUp (Live c) same s = absurd same
stands_still done q HungUp HungUp same s = s

pub same_itself : (o : Known) → SameAt o o
same_itself Unknown = tt
same_itself (Live c) = record { phase = refl; fids = refl; texts = λ fid. refl }
same_itself HungUp = tt

pub runs_same : (H : History) (old new : Running) → RunsAfter H old → SameRunning old new → RunsAfter H new
runs_same H old new h same = record {
  running = h.running;
  events = same.events ∙ h.events;
  lives = record {
    shares = shares_still (deeds H) old.shared new.shared same.shared h.lives.shares;
    connections = λ q. stands_still (deeds H) q (connection_at old q) (connection_at new q) (same.connections q) (h.lives.connections q);
  };
}

-- ---- an agent that goes on, and one that ends

-- an event that isn't the last was carried out
pub runs_next : (H : History) (event : Event) (old new : Running) → RunsAfter H old → GoesOn event old → new.events ≡ old.events + 1
    → LivesOn event (connection_at old) old.shared (connection_at new) new.shared → RunsAfter (event ∷ H) new
runs_next H event old new runs more counted lives =
    let next = goes_on H event old.events runs.running runs.events (omega (arith, more.1)) (λ e. omega (arith, more.1, e)) in
    record {
      running = runs_still H event runs.running more.0 next;
      events = omega (arith, counted, runs.events);
      lives = subst (λ (done : List Deed). Lives done (connection_at new) new.shared) (sym next) (lives (deeds H) runs.lives);
    }

last_stops : (H : History) (event : Event) (done : List Deed) → has_stopped H ≡ false → length H + 1 ≡ most_events → has_stopped (event ∷ H) ≡ true
last_stops H event done running last = rw (running, last) refl

stop_stops : (H : History) (event : Event) → has_stopped H ≡ false → is_stop event ≡ true → has_stopped (event ∷ H) ≡ true
stop_stops H Stop running is = rw running (either (nat_lt (length H + 1) most_events))
  where
    either : (b : Bool) → is_halted (cond b (Halted ∷ deeds H) (Halted ∷ Halted ∷ deeds H)) ≡ true
    either true = refl
    either false = refl
stop_stops H (Request conn frame word) running is = absurd (false≢true is)
stop_stops H (Hang conn) running is = absurd (false≢true is)
stop_stops H (Answer call bytes) running is = absurd (false≢true is)
stop_stops H (NoAnswer call) running is = absurd (false≢true is)
stop_stops H (NoRoom call) running is = absurd (false≢true is)
stop_stops H (Take conn) running is = absurd (false≢true is)
stop_stops H TakeAsk running is = absurd (false≢true is)

-- behind the last event the agent stopped
pub ends_stopped : (H : History) (event : Event) (r : Running) → RunsAfter H r → Ends event r → has_stopped (event ∷ H) ≡ true
ends_stopped H event r runs (inl is) = stop_stops H event runs.running is
ends_stopped H event r runs (inr last) = last_stops H event (deeds H) runs.running (omega (arith, last, runs.events))
