-- Takes of replies and of questions change no conversation.
use Rattle.std.proofs.Common.{◌≡◌, ℕ, zero, suc, List, [], ◌∷◌, Bool, true, false, cond, refl, ap, ◌∙◌}
use Rattle.nine.specs.declared.message.RMsg.{RMsg}
use Rattle.talks.specs.Standings.{standing}
use Rattle.agent_history.specs.declared.event.Event.{Event}
use Rattle.agent_history.specs.declared.event.Event.TheVariants.{Take, TakeAsk}
use Rattle.agent_history.specs.Deeds.{Deed, OfConnection, Entered, Halted, was_hung, was_opened}
use Rattle.agent_history.specs.Replies.{untaken}
use Rattle.agent_history.specs.Conversations.{Due, NoneDue, DropDue, QuestionDue, due, talk}
use Rattle.agent_history.specs.Histories.{History, answer, deeds, entered, handing, is_reply, taking}
use Rattle.agent_laws.proofs.GrowLaws.{last_or_not}
use Rattle.world_history.specs.Driving.{all_taken, ask_up, asks_of, drive, hands_out, take_up, takes_of}
use Rattle.driven_agents.specs.Driven.{TakesChangeNone}
use Rattle.driven_agents.proofs.EditGrows.{where_so}

-- conversations met the same
abbrev pub SameTalks : List Deed → List Deed → Type 0
SameTalks before done = (conv : ℕ) → talk done conv ≡ talk before conv

pub entered_same : (at : ℕ) (done : List Deed) → SameTalks done (entered at done)
entered_same at done = where_so (SameTalks done) (was_opened done at) done (OfConnection at Entered ∷ done) (λ _ conv. refl) (λ conv. refl)

taking_same : (at : ℕ) (left : List RMsg) (before done : List Deed) → SameTalks before done → SameTalks before (taking at left done)
taking_same at [] before done same = same
taking_same at (reply ∷ rest) before done same = same

handing_same : (o : Due) (done : List Deed) → SameTalks done (handing o done)
handing_same NoneDue done = λ conv. refl
handing_same (DropDue drop) done = λ conv. refl
handing_same (QuestionDue question) done = λ conv. refl

pub halts_same : (before done : List Deed) → SameTalks before done → SameTalks before (Halted ∷ done)
halts_same before done same = same

take_same : (H : History) (at : ℕ) → SameTalks (deeds H) (deeds (Take at ∷ H))
take_same H at =
    let done = deeds H in
    last_or_not (SameTalks done) H (Take at) (halts_same done) (λ conv. refl)
    (where_so (SameTalks done) (was_hung done at) done (taking at (untaken done at) (entered at done)) (λ _ conv. refl) (taking_same at (untaken done at) done (entered at done) (entered_same at done)))

ask_same : (H : History) → SameTalks (deeds H) (deeds (TakeAsk ∷ H))
ask_same H = let done = deeds H in last_or_not (SameTalks done) H TakeAsk (halts_same done) (λ conv. refl) (handing_same (due done) done)

by_answer : (b : Bool) (one other H : History) → SameTalks (deeds H) (deeds one) → SameTalks (deeds H) (deeds other) → SameTalks (deeds H) (deeds (cond b one other))
by_answer true one other H p q = p
by_answer false one other H p q = q

takes_same : (n : ℕ) (H : History) → SameTalks (deeds H) (deeds (take_up n H))
takes_same zero H = λ conv. refl
takes_same (suc n) H =
    let once = take_same H 0 in
    by_answer (is_reply (answer H (Take 0)).0) (take_up n (Take 0 ∷ H)) (Take 0 ∷ H) H (λ conv. takes_same n (Take 0 ∷ H) conv ∙ once conv) once

asks_same : (n : ℕ) (H : History) → SameTalks (deeds H) (deeds (ask_up n H))
asks_same zero H = λ conv. refl
asks_same (suc n) H =
    let once = ask_same H in
    by_answer (hands_out (answer H TakeAsk).0) (ask_up n (TakeAsk ∷ H)) (TakeAsk ∷ H) H (λ conv. asks_same n (TakeAsk ∷ H) conv ∙ once conv) once

pub drive_same : (event : Event) (H : History) → SameTalks (deeds (event ∷ H)) (deeds (drive event H))
unfolding drive
drive_same event H conv =
    let taken = all_taken (event ∷ H) in
    asks_same (asks_of taken) taken conv ∙ takes_same (takes_of (event ∷ H)) (event ∷ H) conv

pub takes_change_none : TakesChangeNone
takes_change_none event H conv = ap standing (drive_same event H conv)
