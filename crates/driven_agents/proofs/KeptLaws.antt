-- What takes of replies and of questions leave as it was.
use Rattle.std.proofs.Common.{◌≡◌, ℕ, zero, suc, List, [], ◌∷◌, Bool, true, false, cond, sym, ap, subst}
use Rattle.nine.specs.declared.message.RMsg.{RMsg}
use Rattle.agent_history.specs.declared.event.Event.{Event}
use Rattle.agent_history.specs.declared.event.Event.TheVariants.{Take, TakeAsk}
use Rattle.agent_history.specs.Deeds.{Deed, DropTaken, Entered, HandedOut, OfConnection, OfReplies, Taken, was_hung, was_opened}
use Rattle.agent_history.specs.Replies.{untaken}
use Rattle.agent_history.specs.Conversations.{Due, NoneDue, DropDue, QuestionDue, due}
use Rattle.agent_history.specs.Histories.{History, answer, deeds, entered, handing, is_reply, taking}
use Rattle.world_history.specs.Driving.{all_taken, ask_up, asks_of, drive, hands_out, take_up, takes_of}
use Rattle.driven_agents.proofs.EditGrows.{where_so}
use Rattle.driven_agents.specs.Idle.{Runs}
use Rattle.driven_agents.proofs.RunLaws.{ask_runs, going, take_runs, taken_runs}

-- takes of replies keep it
pub record KeepsTakes (P : List Deed → Type 0) : Type 0 where
  pub takes : (done : List Deed) → P done → P (OfReplies 0 Taken ∷ done)

-- takes of questions do
pub record KeepsAsks (P : List Deed → Type 0) : Type 0 where
  pub hands : (done : List Deed) → P done → P (HandedOut ∷ done)
  pub drops : (done : List Deed) → P done → P (DropTaken ∷ done)

pub record KeepsTaken (P : List Deed → Type 0) : Type 0 where
  pub takes : KeepsTakes P
  pub asks : KeepsAsks P

-- ---- one take, of a connection that was opened

abbrev pub There : (List Deed → Type 0) → List Deed → Type 0
There P done = (was_opened done 0 ≡ true) × P done

taking_keeps : (P : List Deed → Type 0) → KeepsTakes P → (left : List RMsg) (done : List Deed) → There P done → There P (taking 0 left done)
taking_keeps P k [] done p = p
taking_keeps P k (reply ∷ rest) done p = (p.0, k.takes done p.1)

entered_keeps : (P : List Deed → Type 0) (done : List Deed) → There P done → There P (entered 0 done)
entered_keeps P done p = subst (There P) (ap (λ b. cond b done (OfConnection 0 Entered ∷ done)) (sym p.0)) p

take_keeps : (P : List Deed → Type 0) → KeepsTakes P → (h : History) → Runs (Take 0 ∷ h) → There P (deeds h) → There P (deeds (Take 0 ∷ h))
take_keeps P k h runs p =
    let done = deeds h in
    subst (There P) (sym (going (Take 0) h runs).now)
    (where_so (There P) (was_hung done 0) done (taking 0 (untaken done 0) (entered 0 done)) (λ _. p) (taking_keeps P k (untaken done 0) (entered 0 done) (entered_keeps P done p)))

handing_keeps : (P : List Deed → Type 0) → KeepsAsks P → (o : Due) (done : List Deed) → P done → P (handing o done)
handing_keeps P k NoneDue done p = p
handing_keeps P k (DropDue drop) done p = k.drops done p
handing_keeps P k (QuestionDue question) done p = k.hands done p

ask_keeps : (P : List Deed → Type 0) → KeepsAsks P → (h : History) → Runs (TakeAsk ∷ h) → P (deeds h) → P (deeds (TakeAsk ∷ h))
ask_keeps P k h runs p = let done = deeds h in subst P (sym (going TakeAsk h runs).now) (handing_keeps P k (due done) done p)

-- ---- takes

by_choice : (P : List Deed → Type 0) (b : Bool) (one other : History) → (Runs one → P (deeds one)) → (Runs other → P (deeds other)) → Runs (cond b one other) → P (deeds (cond b one other))
by_choice P true one other p q runs = p runs
by_choice P false one other p q runs = q runs

pub takes_keep : (P : List Deed → Type 0) → KeepsTakes P → (n : ℕ) (h : History) → Runs (take_up n h) → There P (deeds h) → There P (deeds (take_up n h))
takes_keep P k zero h runs p = p
takes_keep P k (suc n) h runs p =
    let once = take_keeps P k h (take_runs n h runs) p in
    by_choice (There P) (is_reply (answer h (Take 0)).0) (take_up n (Take 0 ∷ h)) (Take 0 ∷ h) (λ r. takes_keep P k n (Take 0 ∷ h) r once) (λ r. once) runs

asks_keep : (P : List Deed → Type 0) → KeepsAsks P → (n : ℕ) (h : History) → Runs (ask_up n h) → P (deeds h) → P (deeds (ask_up n h))
asks_keep P k zero h runs p = p
asks_keep P k (suc n) h runs p =
    let once = ask_keeps P k h (ask_runs n h runs) p in
    by_choice P (hands_out (answer h TakeAsk).0) (ask_up n (TakeAsk ∷ h)) (TakeAsk ∷ h) (λ r. asks_keep P k n (TakeAsk ∷ h) r once) (λ r. once) runs

-- ---- those that follow an event

pub behind_replies : (P : List Deed → Type 0) → KeepsTakes P → (e : Event) (h : History) → Runs (drive e h) → was_opened (deeds (e ∷ h)) 0 ≡ true → P (deeds (e ∷ h)) → P (deeds (all_taken (e ∷ h)))
behind_replies P k e h runs open_ p = (takes_keep P k (takes_of (e ∷ h)) (e ∷ h) (taken_runs e h runs) (open_, p)).1

pub behind_asks : (P : List Deed → Type 0) → KeepsAsks P → (e : Event) (h : History) → Runs (drive e h) → P (deeds (all_taken (e ∷ h))) → P (deeds (drive e h))
unfolding drive
behind_asks P k e h runs p = asks_keep P k (asks_of (all_taken (e ∷ h))) (all_taken (e ∷ h)) runs p

pub behind_takes : (P : List Deed → Type 0) → KeepsTaken P → (e : Event) (h : History) → Runs (drive e h) → was_opened (deeds (e ∷ h)) 0 ≡ true → P (deeds (e ∷ h)) → P (deeds (drive e h))
behind_takes P k e h runs open_ p = behind_asks P k.asks e h runs (behind_replies P k.takes e h runs open_ p)
