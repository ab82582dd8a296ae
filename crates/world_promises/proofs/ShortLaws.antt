-- An agent that isn't stopped runs as long as its history is short; and an event with its takes is short where little comes of it.
use Rattle.std.proofs.Common.{◌≡◌, ℕ, zero, suc, ◌+◌, ◌≤◌, ◌<◌, List, [], ◌∷◌, length, Bool, true, false, cond, ltb, Option, Some, None, refl, arith}
use Rattle.std.specs.List.{list_all}
use Rattle.std.proofs.lemmas.Bool.{and_from, and_parts, lt-ltb}
use Rattle.nine.specs.declared.message.RMsg.{RMsg}
use Rattle.nine.specs.declared.message.RBody.{RBody}
use Rattle.agent_history.specs.declared.event.Event.{Event}
use Rattle.agent_history.specs.declared.event.Event.TheVariants.{Request, Hang, Answer, NoAnswer, NoRoom, Take, TakeAsk, Stop}
use Rattle.talks.specs.Calls as calls
use Rattle.agent_history.specs.Deeds.{Deed, Entered, Halted, OfConnection, Swept, is_halted, was_hung, was_opened}
use Rattle.agent_history.specs.Replies.{has_settled, swept, untaken}
use Rattle.agent_history.specs.Conversations.{Due, NoneDue, DropDue, QuestionDue, asker, due, resumed}
use Rattle.agent_history.specs.Requests.{Call, after_frame, answered, body_to, call_of, replied}
use Rattle.agent_history.specs.Histories.{History, answer, deeds, does, entered, handing, is_reply, most_events, taking}
use Rattle.agent_laws.proofs.GrowLaws.{KeepsAny, frame_grows, resumed_any}
use Rattle.agent_laws.proofs.KindLaws.{KeepsIf, is_asked, is_met}
use Rattle.world_history.specs.Driving.{all_taken, ask_up, asks_of, drive, hands_out, left_to_hand, take_up, takes_of}
use Rattle.driven_agents.specs.Idle.{Runs}
use Rattle.driven_agents.proofs.KeptLaws.{KeepsTakes, takes_keep}

-- ---- what doesn't stop it

-- an event of a network's
abbrev pub is_driven : Event → Bool
is_driven (Request at frame word) = true
is_driven (Take at) = true
is_driven (Answer call bytes) = true
is_driven (NoAnswer call) = true
is_driven TakeAsk = true
is_driven event = false

abbrev Goes : List Deed → Type 0
Goes done = is_halted done ≡ false

asked_goes : (conn : ℕ) → KeepsIf ⊥ (is_asked conn) Goes
asked_goes conn done Halted is fits goes = absurd cc
asked_goes conn done deed is fits goes = goes

met_goes : KeepsAny is_met Goes
met_goes done Halted is goes = absurd cc
met_goes done deed is goes = goes

either_goes : (b : Bool) (one other : List Deed) → Goes one → Goes other → Goes (cond b one other)
either_goes true one other p q = p
either_goes false one other p q = q

replied_goes : (call : Call) (o : Option RBody) (done : List Deed) → Goes done → Goes (replied call o done)
replied_goes call None done goes = goes
replied_goes call (Some body) done goes = goes

swept_goes : (done : List Deed) → Goes done → Goes (swept done)
swept_goes done goes = either_goes (has_settled done) (Swept ∷ done) done goes goes

taking_goes : (at : ℕ) (left : List RMsg) (done : List Deed) → Goes done → Goes (taking at left done)
taking_goes at [] done goes = goes
taking_goes at (reply ∷ rest) done goes = goes

handing_goes : (o : Due) (done : List Deed) → Goes done → Goes (handing o done)
handing_goes NoneDue done goes = goes
handing_goes (DropDue drop) done goes = goes
handing_goes (QuestionDue question) done goes = goes

entered_goes : (at : ℕ) (done : List Deed) → Goes done → Goes (entered at done)
entered_goes at done goes = either_goes (was_opened done at) done (OfConnection at Entered ∷ done) goes goes

does_goes : (e : Event) (done : List Deed) → is_driven e ≡ true → Goes done → Goes (does done e)
does_goes (Request at frame word) done is goes =
    let opened = entered at done in
    let call = call_of at frame word in
    either_goes (was_hung done at) done (swept (answered opened call frame)) goes
    (swept_goes (answered opened call frame) (replied_goes call (body_to opened call frame) (after_frame opened call frame) (frame_grows ⊥ Goes call (asked_goes call.conn) opened frame (λ x. absurd x) (entered_goes at done goes))))
does_goes (Take at) done is goes = either_goes (was_hung done at) done (taking at (untaken done at) (entered at done)) goes (taking_goes at (untaken done at) (entered at done) (entered_goes at done goes))
does_goes (Answer call bytes) done is goes = swept_goes (resumed (asker done call) (calls.Heard bytes) done) (resumed_any Goes met_goes (asker done call) (calls.Heard bytes) done goes)
does_goes (NoAnswer call) done is goes = swept_goes (resumed (asker done call) calls.Unheard done) (resumed_any Goes met_goes (asker done call) calls.Unheard done goes)
does_goes TakeAsk done is goes = handing_goes (due done) done goes
does_goes (Hang at) done is goes = absurd cc
does_goes (NoRoom call) done is goes = absurd cc
does_goes Stop done is goes = absurd cc

after_goes : (halted within : Bool) (done next : List Deed) → halted ≡ false → within ≡ true → Goes next → Goes (cond halted done (cond within next (Halted ∷ next)))
after_goes halted within done next going short goes = rw (going, short) goes

pub runs_short : (h : History) → list_all is_driven h ≡ true → length h < most_events → Runs h
runs_short [] driven short = refl
runs_short (e ∷ h) driven short =
    let parts = and_parts (is_driven e) (list_all is_driven h) driven in
    let before = runs_short h parts.1 (omega arith) in
    after_goes (is_halted (deeds h)) (ltb (length h + 1) most_events) (deeds h) (does (deeds h) e) before (lt-ltb (length h + 1) most_events (omega arith)) (does_goes e (deeds h) parts.0 before)

-- ---- takes

either_driven : (b : Bool) (one other : History) → list_all is_driven one ≡ true → list_all is_driven other ≡ true → list_all is_driven (cond b one other) ≡ true
either_driven true one other p q = p
either_driven false one other p q = q

takes_driven : (n : ℕ) (h : History) → list_all is_driven h ≡ true → list_all is_driven (take_up n h) ≡ true
takes_driven zero h all = all
takes_driven (suc n) h all = either_driven (is_reply (answer h (Take 0)).0) (take_up n (Take 0 ∷ h)) (Take 0 ∷ h) (takes_driven n (Take 0 ∷ h) all) all

asks_driven : (n : ℕ) (h : History) → list_all is_driven h ≡ true → list_all is_driven (ask_up n h) ≡ true
asks_driven zero h all = all
asks_driven (suc n) h all = either_driven (hands_out (answer h TakeAsk).0) (ask_up n (TakeAsk ∷ h)) (TakeAsk ∷ h) (asks_driven n (TakeAsk ∷ h) all) all

drive_driven : (e : Event) (h : History) → is_driven e ≡ true → list_all is_driven h ≡ true → list_all is_driven (drive e h) ≡ true
unfolding drive
drive_driven e h is all = asks_driven (asks_of (all_taken (e ∷ h))) (all_taken (e ∷ h)) (takes_driven (takes_of (e ∷ h)) (e ∷ h) (and_from (is_driven e) (list_all is_driven h) is all))

either_short : (b : Bool) (one other : History) (n : ℕ) → length one ≤ n → length other ≤ n → length (cond b one other) ≤ n
either_short true one other n p q = p
either_short false one other n p q = q

takes_short : (n : ℕ) (h : History) → length (take_up n h) ≤ length h + n
takes_short zero h = omega arith
takes_short (suc n) h = either_short (is_reply (answer h (Take 0)).0) (take_up n (Take 0 ∷ h)) (Take 0 ∷ h) (length h + suc n) (omega (arith, takes_short n (Take 0 ∷ h))) (omega arith)

asks_short : (n : ℕ) (h : History) → length (ask_up n h) ≤ length h + n
asks_short zero h = omega arith
asks_short (suc n) h = either_short (hands_out (answer h TakeAsk).0) (ask_up n (TakeAsk ∷ h)) (TakeAsk ∷ h) (length h + suc n) (omega (arith, asks_short n (TakeAsk ∷ h))) (omega arith)

-- ---- an event

-- what comes of it is little
pub record IsLittle (done : List Deed) : Type 0 where
  pub entered : was_opened done 0 ≡ true
  pub replies : length (untaken done 0) ≤ 65
  pub left : left_to_hand done ≤ 1100

pub record IsShort (e : Event) (h : History) : Type 0 where
  pub runs : Runs (drive e h)
  pub driven : list_all is_driven (drive e h) ≡ true
  pub size : length (drive e h) ≤ length h + 2048

left_kept : (n : ℕ) → KeepsTakes (λ done. left_to_hand done ≤ n)
left_kept n = record { takes = λ done few. few }

pub short_so : (e : Event) (h : History) → is_driven e ≡ true → list_all is_driven h ≡ true → length h + 2048 < most_events → (Runs (e ∷ h) → IsLittle (deeds (e ∷ h))) → IsShort e h
unfolding drive
short_so e h is all room few =
    let one = e ∷ h in
    let one_driven = and_from (is_driven e) (list_all is_driven h) is all in
    let one_runs = runs_short one one_driven (omega arith) in
    let little = few one_runs in
    let two = all_taken one in
    let two_size = takes_short (takes_of one) one in
    let two_runs = runs_short two (takes_driven (takes_of one) one one_driven) (omega (arith, little.replies)) in
    let left = (takes_keep (λ done. left_to_hand done ≤ 1100) (left_kept 1100) (takes_of one) one two_runs (little.entered, little.left)).1 in
    let three_size = asks_short (asks_of two) two in
    let driven = drive_driven e h is all in
    let size : length (drive e h) ≤ length h + 2048 = omega (arith, two_size, three_size, left, little.replies) in
    record { runs = runs_short (drive e h) driven (omega arith); driven = driven; size = size }
