-- What a deed on one connection leaves as it was on the others, and that what an event does to fids, keys and
-- connections is done by deeds of its own connection.
use Rattle.std.proofs.Common.{◌≡◌, ℕ, ◌+◌, List, [], ◌∷◌, Bool, true, false, eqb, not, refl, ap, ◌∙◌, arith}
use Rattle.std.proofs.lemmas.Bool.{eqb-true, ne_eqb, not-true}
use Rattle.agent_history.specs.declared.event.Event.{Event}
use Rattle.agent_history.specs.declared.event.Event.TheVariants.{Request, Hang, Answer, NoAnswer, NoRoom, Take, TakeAsk, Stop}
use Rattle.agent_history.specs.Deeds.{Deed, FidDeed, KeyDeed, ReplyDeed, ConnectionDeed, OfFids, OfKeys, OfReplies, OfConnection, OfTalk, Raised, HandedOut, OfPrompts, OfLog, DropTaken, Swept, Halted, Versioned, Attached, Walked, Opened, Listed, Browsed, Clunked, Edited, Switched, Answered, Awaited, Settled, Flushed, Taken, Entered, Hung, msize_of, fid_of, held_by, next_of, text_of, is_halted}
use Rattle.agent_history.specs.Requests.{Call, after_frame}
use Rattle.agent_history.specs.Conversations.{Due, NoneDue, DropDue, QuestionDue, due}
use Rattle.agent_history.specs.Histories.{History, deeds, does, handing, has_stopped}
use Rattle.agent_laws.specs.Laws.{Adds, has_connection, is_of, is_of_talks, is_on}
use Rattle.agent_laws.proofs.KindLaws.{KeepsIf, KeepsOf, done_by_asked, is_asked, is_done, is_told_so}
use Rattle.agent_laws.proofs.GrowLaws.{answer_does, event_grows, event_on, frame_grows, last_or_not, no_answer_does, no_room_does}

-- ---- deeds of one connection

adds_none : (kind : Deed → Bool) (done : List Deed) → Adds kind done done
adds_none kind done = ([], refl, refl)

is_done_is_of : (conn : ℕ) (deed : Deed) → is_done conn deed ≡ true → is_of conn deed ≡ true
is_done_is_of conn (OfFids at deed) e = e
is_done_is_of conn (OfKeys at deed) e = e
is_done_is_of conn (OfConnection at deed) e = e
is_done_is_of conn (OfReplies at deed) e = refl
is_done_is_of conn (OfTalk conv call) e = refl
is_done_is_of conn (Raised conv) e = refl
is_done_is_of conn HandedOut e = refl
is_done_is_of conn DropTaken e = refl
is_done_is_of conn (OfPrompts about doing) e = refl
is_done_is_of conn (OfLog doing) e = refl
is_done_is_of conn Swept e = refl
is_done_is_of conn Halted e = refl

adds_more : (conn : ℕ) (before : List Deed) → KeepsOf (is_done conn) (Adds (is_of conn) before)
adds_more conn before done deed kind fits h = (deed ∷ h.0, ap (λ (ds : List Deed). deed ∷ ds) h.1, rw (is_done_is_of conn deed kind) h.2)

-- whatever is known of questions
asked_adds : (Known : Type 0) (conn : ℕ) (before : List Deed) → KeepsIf Known (is_asked conn) (Adds (is_of conn) before)
asked_adds Known conn before done deed kind fits h = (deed ∷ h.0, ap (λ (ds : List Deed). deed ∷ ds) h.1, rw (is_done_is_of conn deed (done_by_asked conn deed kind)) h.2)

pub frame_adds : (done : List Deed) (call : Call) (frame : List ℕ) → Adds (is_of call.conn) done (after_frame done call frame)
frame_adds done call frame =
    frame_grows ⊥ (Adds (is_of call.conn) done) call (asked_adds ⊥ call.conn done) done frame (λ x. absurd x) (adds_none (is_of call.conn) done)

on_its_connection : (e : Event) (conn : ℕ) → is_on conn e ≡ true → event_on conn e
on_its_connection (Request at frame word) conn on = eqb-true at conn on
on_its_connection (Take at) conn on = eqb-true at conn on
on_its_connection (Hang at) conn on = eqb-true at conn on
on_its_connection Stop conn on = tt
on_its_connection (Answer call bytes) conn on = tt
on_its_connection (NoAnswer call) conn on = tt
on_its_connection (NoRoom call) conn on = tt
on_its_connection TakeAsk conn on = tt

pub event_adds : (e : Event) (H : History) (conn : ℕ) → is_on conn e ≡ true → Adds (is_of conn) (deeds H) (deeds (e ∷ H))
event_adds e H conn on = event_grows (Adds (is_of conn) (deeds H)) conn (adds_more conn (deeds H)) e H (on_its_connection e conn on) (adds_none (is_of conn) (deeds H))

-- an event that is on no connection
told_is_of_talks : (deed : Deed) → is_told_so deed ≡ true → is_of_talks deed ≡ true
told_is_of_talks (OfTalk conv call) e = refl
told_is_of_talks (Raised conv) e = refl
told_is_of_talks (OfReplies at deed) e = refl
told_is_of_talks HandedOut e = refl
told_is_of_talks DropTaken e = refl
told_is_of_talks (OfPrompts about doing) e = refl
told_is_of_talks (OfLog doing) e = refl
told_is_of_talks Swept e = refl
told_is_of_talks Halted e = refl
told_is_of_talks (OfFids at deed) e = absurd cc
told_is_of_talks (OfKeys at deed) e = absurd cc
told_is_of_talks (OfConnection at deed) e = absurd cc

told_adds : (Known : Type 0) (before : List Deed) → KeepsIf Known is_told_so (Adds is_of_talks before)
told_adds Known before done deed kind fits h = (deed ∷ h.0, ap (λ (ds : List Deed). deed ∷ ds) h.1, rw (told_is_of_talks deed kind) h.2)

stops_too : (before done : List Deed) → Adds is_of_talks before done → Adds is_of_talks before (Halted ∷ done)
stops_too before done h = (Halted ∷ h.0, ap (λ (ds : List Deed). Halted ∷ ds) h.1, h.2)

hands_out : (o : Due) (done : List Deed) → Adds is_of_talks done (handing o done)
hands_out NoneDue done = adds_none is_of_talks done
hands_out (DropDue drop) done = (DropTaken ∷ [], refl, refl)
hands_out (QuestionDue question) done = (HandedOut ∷ [], refl, refl)

does_add : (e : Event) (done : List Deed) → has_connection e ≡ false → Adds is_of_talks done (does done e)
does_add (Request at frame word) done none = absurd cc
does_add (Take at) done none = absurd cc
does_add (Hang at) done none = absurd cc
does_add Stop done none = (Halted ∷ [], refl, refl)
does_add (Answer number bytes) done none = answer_does ⊥ (Adds is_of_talks done) (told_adds ⊥ done) number bytes done (λ x. absurd x) (adds_none is_of_talks done)
does_add (NoAnswer number) done none = no_answer_does ⊥ (Adds is_of_talks done) (told_adds ⊥ done) number done (λ x. absurd x) (adds_none is_of_talks done)
does_add (NoRoom number) done none = no_room_does ⊥ (Adds is_of_talks done) (told_adds ⊥ done) number done (λ x. absurd x) (adds_none is_of_talks done)
does_add TakeAsk done none = hands_out (due done) done

pub others_add : (e : Event) (H : History) → has_connection e ≡ false → Adds is_of_talks (deeds H) (deeds (e ∷ H))
others_add e H none = last_or_not (Adds is_of_talks (deeds H)) H e (stops_too (deeds H)) (adds_none is_of_talks (deeds H)) (does_add e (deeds H) none)

-- ---- the other connections

-- what is read off the deeds for a connection is the same before and after
pub record SameFor (before : List Deed) (conn : ℕ) (after : List Deed) : Type 0 where
  pub msize : msize_of after conn ≡ msize_of before conn
  pub fids : (fid : ℕ) → fid_of after conn fid ≡ fid_of before conn fid
  pub texts : (fid : ℕ) → text_of after conn fid ≡ text_of before conn fid
  pub nexts : (fid : ℕ) → next_of after conn fid ≡ next_of before conn fid
  pub held : held_by after conn ≡ held_by before conn

pub same_for_none : (before : List Deed) (conn : ℕ) → SameFor before conn before
same_for_none before conn = record { msize = refl; fids = λ fid. refl; texts = λ fid. refl; nexts = λ fid. refl; held = refl }

-- the connection of a deed isn't this one, and it is no stop
abbrev pub leaves : Deed → ℕ → Bool
leaves (OfFids at deed) conn = not (eqb at conn)
leaves (OfConnection at deed) conn = not (eqb at conn)
leaves Halted conn = false
leaves deed conn = true

pub fids_same_for : (at : ℕ) (deed : FidDeed) (before : List Deed) (conn : ℕ) → eqb at conn ≡ false → SameFor before conn (OfFids at deed ∷ before)
fids_same_for at (Versioned msize) before conn e = record { msize = rw e refl; fids = λ fid. rw e refl; texts = λ fid. rw e refl; nexts = λ fid. rw e refl; held = rw e refl }
fids_same_for at (Attached f) before conn e = record { msize = refl; fids = λ fid. rw e refl; texts = λ fid. rw e refl; nexts = λ fid. rw e refl; held = rw e refl }
fids_same_for at (Walked f node) before conn e = record { msize = refl; fids = λ fid. rw e refl; texts = λ fid. rw e refl; nexts = λ fid. rw e refl; held = rw e refl }
fids_same_for at (Opened f mode) before conn e = record { msize = refl; fids = λ fid. rw e refl; texts = λ fid. refl; nexts = λ fid. rw e refl; held = refl }
fids_same_for at (Listed f) before conn e = record { msize = refl; fids = λ fid. refl; texts = λ fid. rw e refl; nexts = λ fid. refl; held = refl }
fids_same_for at (Browsed f next) before conn e = record { msize = refl; fids = λ fid. refl; texts = λ fid. refl; nexts = λ fid. rw e refl; held = refl }
fids_same_for at (Clunked f) before conn e = record { msize = refl; fids = λ fid. rw e refl; texts = λ fid. rw e refl; nexts = λ fid. rw e refl; held = rw e refl }

keys_same_for : (at : ℕ) (deed : KeyDeed) (before : List Deed) (conn : ℕ) → SameFor before conn (OfKeys at deed ∷ before)
keys_same_for at (Edited edit) before conn = record { msize = refl; fids = λ fid. refl; texts = λ fid. refl; nexts = λ fid. refl; held = refl }
keys_same_for at Switched before conn = record { msize = refl; fids = λ fid. refl; texts = λ fid. refl; nexts = λ fid. refl; held = refl }

replies_same_for : (at : ℕ) (deed : ReplyDeed) (before : List Deed) (conn : ℕ) → SameFor before conn (OfReplies at deed ∷ before)
replies_same_for at (Answered tag body) before conn = record { msize = refl; fids = λ fid. refl; texts = λ fid. refl; nexts = λ fid. refl; held = refl }
replies_same_for at (Awaited tag fid count) before conn = record { msize = refl; fids = λ fid. refl; texts = λ fid. refl; nexts = λ fid. refl; held = refl }
replies_same_for at (Settled tag body) before conn = record { msize = refl; fids = λ fid. refl; texts = λ fid. refl; nexts = λ fid. refl; held = refl }
replies_same_for at (Flushed tag) before conn = record { msize = refl; fids = λ fid. refl; texts = λ fid. refl; nexts = λ fid. refl; held = refl }
replies_same_for at Taken before conn = record { msize = refl; fids = λ fid. refl; texts = λ fid. refl; nexts = λ fid. refl; held = refl }

connection_same_for : (at : ℕ) (deed : ConnectionDeed) (before : List Deed) (conn : ℕ) → eqb at conn ≡ false → SameFor before conn (OfConnection at deed ∷ before)
connection_same_for at Entered before conn e = record { msize = refl; fids = λ fid. refl; texts = λ fid. refl; nexts = λ fid. refl; held = refl }
connection_same_for at Hung before conn e = record { msize = rw e refl; fids = λ fid. rw e refl; texts = λ fid. rw e refl; nexts = λ fid. rw e refl; held = rw e refl }

-- another connection's deed
pub same_for : (deed : Deed) (before : List Deed) (conn : ℕ) → leaves deed conn ≡ true → SameFor before conn (deed ∷ before)
same_for (OfFids at deed) before conn e = fids_same_for at deed before conn (not-true (eqb at conn) e)
same_for (OfKeys at deed) before conn e = keys_same_for at deed before conn
same_for (OfReplies at deed) before conn e = replies_same_for at deed before conn
same_for (OfConnection at deed) before conn e = connection_same_for at deed before conn (not-true (eqb at conn) e)
same_for (OfTalk conv call) before conn e = record { msize = refl; fids = λ fid. refl; texts = λ fid. refl; nexts = λ fid. refl; held = refl }
same_for (Raised conv) before conn e = record { msize = refl; fids = λ fid. refl; texts = λ fid. refl; nexts = λ fid. refl; held = refl }
same_for HandedOut before conn e = record { msize = refl; fids = λ fid. refl; texts = λ fid. refl; nexts = λ fid. refl; held = refl }
same_for DropTaken before conn e = record { msize = refl; fids = λ fid. refl; texts = λ fid. refl; nexts = λ fid. refl; held = refl }
same_for (OfPrompts about doing) before conn e = record { msize = refl; fids = λ fid. refl; texts = λ fid. refl; nexts = λ fid. refl; held = refl }
same_for (OfLog doing) before conn e = record { msize = refl; fids = λ fid. refl; texts = λ fid. refl; nexts = λ fid. refl; held = refl }
same_for Swept before conn e = record { msize = refl; fids = λ fid. refl; texts = λ fid. refl; nexts = λ fid. refl; held = refl }
same_for Halted before conn e = absurd cc

same_then : (before done : List Deed) (conn : ℕ) (deed : Deed) → SameFor before conn done → SameFor done conn (deed ∷ done) → SameFor before conn (deed ∷ done)
same_then before done conn deed s t = record {
  msize = t.msize ∙ s.msize;
  fids = λ fid. t.fids fid ∙ s.fids fid;
  texts = λ fid. t.texts fid ∙ s.texts fid;
  nexts = λ fid. t.nexts fid ∙ s.nexts fid;
  held = t.held ∙ s.held;
}

one_on : (n : ℕ) → eqb (n + 1) n ≡ false
one_on n = ne_eqb (n + 1) n (λ e. omega (arith, e))

-- until the agent stops, the same
abbrev pub SameUntil : List Deed → ℕ → List Deed → Type 0
SameUntil before conn after = is_halted after ≡ false → SameFor before conn after

same_more : (before : List Deed) (at conn : ℕ) → eqb at conn ≡ false → KeepsOf (is_done at) (SameUntil before conn)
same_more before at conn off done (OfFids c deed) kind fits s = λ going. same_then before done conn (OfFids c deed) (s going) (fids_same_for c deed done conn (ap (λ (n : ℕ). eqb n conn) (eqb-true c at kind) ∙ off))
same_more before at conn off done (OfKeys c deed) kind fits s = λ going. same_then before done conn (OfKeys c deed) (s going) (keys_same_for c deed done conn)
same_more before at conn off done (OfReplies c deed) kind fits s = λ going. same_then before done conn (OfReplies c deed) (s going) (replies_same_for c deed done conn)
same_more before at conn off done (OfConnection c deed) kind fits s = λ going. same_then before done conn (OfConnection c deed) (s going) (connection_same_for c deed done conn (ap (λ (n : ℕ). eqb n conn) (eqb-true c at kind) ∙ off))
same_more before at conn off done (OfTalk conv call) kind fits s = λ going. same_then before done conn (OfTalk conv call) (s going) (record { msize = refl; fids = λ fid. refl; texts = λ fid. refl; nexts = λ fid. refl; held = refl })
same_more before at conn off done (Raised conv) kind fits s = λ going. same_then before done conn (Raised conv) (s going) (record { msize = refl; fids = λ fid. refl; texts = λ fid. refl; nexts = λ fid. refl; held = refl })
same_more before at conn off done HandedOut kind fits s = λ going. same_then before done conn HandedOut (s going) (record { msize = refl; fids = λ fid. refl; texts = λ fid. refl; nexts = λ fid. refl; held = refl })
same_more before at conn off done DropTaken kind fits s = λ going. same_then before done conn DropTaken (s going) (record { msize = refl; fids = λ fid. refl; texts = λ fid. refl; nexts = λ fid. refl; held = refl })
same_more before at conn off done (OfPrompts about doing) kind fits s = λ going. same_then before done conn (OfPrompts about doing) (s going) (record { msize = refl; fids = λ fid. refl; texts = λ fid. refl; nexts = λ fid. refl; held = refl })
same_more before at conn off done (OfLog doing) kind fits s = λ going. same_then before done conn (OfLog doing) (s going) (record { msize = refl; fids = λ fid. refl; texts = λ fid. refl; nexts = λ fid. refl; held = refl })
same_more before at conn off done Swept kind fits s = λ going. same_then before done conn Swept (s going) (record { msize = refl; fids = λ fid. refl; texts = λ fid. refl; nexts = λ fid. refl; held = refl })
same_more before at conn off done Halted kind fits s = λ going. absurd cc

-- an event that is no request, take or hang of a connection changes nothing that is read off the deeds for it, unless it
-- stops the agent
pub elsewhere : (e : Event) (H : History) (conn : ℕ) → is_on conn e ≡ false → has_stopped (e ∷ H) ≡ false → SameFor (deeds H) conn (deeds (e ∷ H))
elsewhere (Request at frame word) H conn off going = event_grows (SameUntil (deeds H) conn) at (same_more (deeds H) at conn off) (Request at frame word) H refl (λ still. same_for_none (deeds H) conn) going
elsewhere (Take at) H conn off going = event_grows (SameUntil (deeds H) conn) at (same_more (deeds H) at conn off) (Take at) H refl (λ still. same_for_none (deeds H) conn) going
elsewhere (Hang at) H conn off going = event_grows (SameUntil (deeds H) conn) at (same_more (deeds H) at conn off) (Hang at) H refl (λ still. same_for_none (deeds H) conn) going
elsewhere Stop H conn off going = event_grows (SameUntil (deeds H) conn) (conn + 1) (same_more (deeds H) (conn + 1) conn (one_on conn)) Stop H tt (λ still. same_for_none (deeds H) conn) going
elsewhere (Answer call bytes) H conn off going = event_grows (SameUntil (deeds H) conn) (conn + 1) (same_more (deeds H) (conn + 1) conn (one_on conn)) (Answer call bytes) H tt (λ still. same_for_none (deeds H) conn) going
elsewhere (NoAnswer call) H conn off going = event_grows (SameUntil (deeds H) conn) (conn + 1) (same_more (deeds H) (conn + 1) conn (one_on conn)) (NoAnswer call) H tt (λ still. same_for_none (deeds H) conn) going
elsewhere (NoRoom call) H conn off going = event_grows (SameUntil (deeds H) conn) (conn + 1) (same_more (deeds H) (conn + 1) conn (one_on conn)) (NoRoom call) H tt (λ still. same_for_none (deeds H) conn) going
elsewhere TakeAsk H conn off going = event_grows (SameUntil (deeds H) conn) (conn + 1) (same_more (deeds H) (conn + 1) conn (one_on conn)) TakeAsk H tt (λ still. same_for_none (deeds H) conn) going
