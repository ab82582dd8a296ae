-- Where an agent runs behind a history, it ran behind each earlier one; and an event does then what it says.
use Rattle.std.proofs.Common.{◌≡◌, ℕ, zero, suc, ◌+◌, List, ◌∷◌, length, Bool, true, false, cond, ltb, refl}
use Rattle.agent_history.specs.declared.event.Event.{Event}
use Rattle.agent_history.specs.declared.event.Event.TheVariants.{Take, TakeAsk}
use Rattle.agent_history.specs.Deeds.{Deed, Halted, is_halted}
use Rattle.agent_history.specs.Histories.{History, answer, deeds, does, is_reply, most_events}
use Rattle.world_history.specs.Driving.{all_taken, ask_up, asks_of, drive, hands_out, take_up, takes_of}
use Rattle.driven_agents.specs.Idle.{Runs}

pub record Going (e : Event) (h : History) : Type 0 where
  pub before : Runs h
  pub now : deeds (e ∷ h) ≡ does (deeds h) e

by_halt : (halted within : Bool) (done next : List Deed) → is_halted done ≡ halted → is_halted (cond halted done (cond within next (Halted ∷ next))) ≡ false → (is_halted done ≡ false) × (cond halted done (cond within next (Halted ∷ next)) ≡ next)
by_halt true within done next is runs = absurd cc
by_halt false true done next is runs = (is, refl)
by_halt false false done next is runs = absurd cc

pub going : (e : Event) (h : History) → Runs (e ∷ h) → Going e h
going e h runs =
    let so = by_halt (is_halted (deeds h)) (ltb (length h + 1) most_events) (deeds h) (does (deeds h) e) refl runs in
    record { before = so.0; now = so.1 }

pub runs_before : (e : Event) (h : History) → Runs (e ∷ h) → Runs h
runs_before e h runs = (going e h runs).before

-- ---- takes

pub runs_either : (b : Bool) (one other : History) → (Runs one → Runs other) → Runs (cond b one other) → Runs other
runs_either true one other so runs = so runs
runs_either false one other so runs = runs

takes_run : (n : ℕ) (h : History) → Runs (take_up n h) → Runs h
takes_run zero h runs = runs
takes_run (suc n) h runs = runs_before (Take 0) h (runs_either (is_reply (answer h (Take 0)).0) (take_up n (Take 0 ∷ h)) (Take 0 ∷ h) (takes_run n (Take 0 ∷ h)) runs)

-- behind the first of them
pub take_runs : (n : ℕ) (h : History) → Runs (take_up (suc n) h) → Runs (Take 0 ∷ h)
take_runs n h runs = runs_either (is_reply (answer h (Take 0)).0) (take_up n (Take 0 ∷ h)) (Take 0 ∷ h) (takes_run n (Take 0 ∷ h)) runs

asks_run : (n : ℕ) (h : History) → Runs (ask_up n h) → Runs h
asks_run zero h runs = runs
asks_run (suc n) h runs = runs_before TakeAsk h (runs_either (hands_out (answer h TakeAsk).0) (ask_up n (TakeAsk ∷ h)) (TakeAsk ∷ h) (asks_run n (TakeAsk ∷ h)) runs)

pub ask_runs : (n : ℕ) (h : History) → Runs (ask_up (suc n) h) → Runs (TakeAsk ∷ h)
ask_runs n h runs = runs_either (hands_out (answer h TakeAsk).0) (ask_up n (TakeAsk ∷ h)) (TakeAsk ∷ h) (asks_run n (TakeAsk ∷ h)) runs

-- ---- an event and what follows it

pub taken_runs : (e : Event) (h : History) → Runs (drive e h) → Runs (all_taken (e ∷ h))
unfolding drive
taken_runs e h runs = asks_run (asks_of (all_taken (e ∷ h))) (all_taken (e ∷ h)) runs

pub event_runs : (e : Event) (h : History) → Runs (drive e h) → Runs (e ∷ h)
event_runs e h runs = takes_run (takes_of (e ∷ h)) (e ∷ h) (taken_runs e h runs)

pub drive_runs : (e : Event) (h : History) → Runs (drive e h) → Runs h
drive_runs e h runs = runs_before e h (event_runs e h runs)
