-- What was tested before each deed, and the kinds of deeds of which something is kept.
use Rattle.std.proofs.Common.{◌≡◌, ℕ, ◌≤◌, ◌<◌, List, ◌∷◌, length, Bool, true, false, eqb, ltb, ◌&&◌, not, Option, Some, None, refl}
use Rattle.std.specs.Prelude.{◌⊎◌, find, is_some}
use Rattle.std.specs.List.{list_all, list_any}
use Rattle.std.proofs.lemmas.Bool.{eq-eqb}
use Rattle.nine.specs.declared.message.RBody.{RBody}
use Rattle.file_tree.specs.declared.tree.FidState.{FidState}
use Rattle.file_tree.specs.Tree.{is_exclusive}
use Rattle.file_tree.specs.declared.tree.Node.{Node}
use Rattle.file_tree.specs.Calls.{is_open, node_of}
use Rattle.key_lists.specs.Lists.{KeyList, add_fault, delete_fault}
use Rattle.key_lists.specs.Edits.{KeyEdit, Add, Delete}
use Rattle.side_files.specs.declared.line.PromptKind.{PromptKind}
use Rattle.side_files.specs.Calls as side
use Rattle.talks.specs.Calls as calls
use Rattle.talks.specs.Standings.{OnServer, finds}
use Rattle.agent_history.specs.Deeds.{Deed, OfFids, OfKeys, OfReplies, OfConnection, OfTalk, OfPrompts, OfLog, Raised, HandedOut, DropTaken, Swept, Halted, Versioned, Attached, Walked, Opened, Listed, Browsed, Clunked, Edited, Switched, Answered, Awaited, Settled, Flushed, Taken, Entered, Hung, fid_of, holder_of, keys_of, msize_of}
use Rattle.agent_history.specs.Replies.{Wait, is_unsettled, waits, waits_for, waits_under}
use Rattle.agent_history.specs.SideFiles.{askers}
use Rattle.agent_history.specs.Conversations.{asking, questions, speakers, standing_of, stands}
use Rattle.agent_history.specs.Requests.{least_msize, most_msize, most_talks, most_waits, is_rpc}
use Rattle.agent_laws.specs.Laws.{FollowsSearch, IsAnswerTold, IsLineTold, IsLogged, IsOverTold, all_asked, all_prompted, asks_user, may_wait_on, most_read, waits_on}

-- ---- what was tested before a deed

abbrev pub KeysFit : KeyList → KeyEdit → Type 0
KeysFit keys (Add key) = add_fault key keys ≡ None
KeysFit keys (Delete template) = delete_fault template keys ≡ None

-- what is agreed, if anything is
abbrev pub SizeFits : Option ℕ → Type 0
SizeFits None = Unit {0}
SizeFits (Some msize) = (least_msize ≤ msize) × (msize ≤ most_msize)

-- a fid that is opened names something, isn't open, and is alone where it has to be; and there is room for one more
-- conversation where it begins one
pub record OpenFits (done : List Deed) (o : Option FidState) : Type 0 where
  pub named : is_some o ≡ true
  pub rests : is_open o ≡ false
  pub free : (is_exclusive (node_of o) && is_some (holder_of done (node_of o))) ≡ false
  pub room : (is_rpc (node_of o) && not (ltb (length (speakers done)) most_talks)) ≡ false

-- a read that waits: its fid has a file open whose reads may wait, of rpc no other read waits for the fid, none waits under
-- its tag, fewer wait than may, and it is of no more bytes than may be read
pub record WaitFits (done : List Deed) (conn tag fid count : ℕ) : Type 0 where
  pub opened : may_wait_on (fid_of done conn fid) ≡ true
  pub free : is_rpc (node_of (fid_of done conn fid)) ≡ true → waits_for done conn fid ≡ false
  pub unused : waits_under done conn tag ≡ false
  pub few : length (waits done conn) < most_waits
  pub size : count ≤ most_read (msize_of done conn)

-- a read is told an answer, or what it finds in some file of lines
abbrev pub IsToldSomehow : List Deed → ℕ → Wait → RBody → Type 0
IsToldSomehow done conn wait body = IsAnswerTold done conn wait body ⊎ ((node : Node) × (IsLineTold node done conn wait body ⊎ IsOverTold node done conn wait body))

-- a read that is settled is one that waits, and is told an answer or a line
pub record SettleFits (done : List Deed) (conn tag : ℕ) (body : RBody) : Type 0 where
  pub test : Wait → Bool
  pub wait : Wait
  pub found : find test (waits done conn) ≡ Some wait
  pub waited : is_unsettled wait ≡ true
  pub under : wait.tag ≡ tag
  pub told_so : IsToldSomehow done conn wait body

-- a conversation that raises a question waits for the server; and where this is known of the questions before it, it
-- stands and has no other
pub record RaiseFits (Known : Type 0) (done : List Deed) (conv : ℕ) : Type 0 where
  pub phase : (standing_of done conv).phase ≡ OnServer
  pub speaks : Known → stands done conv ≡ true
  pub alone : Known → list_any (λ q. eqb q.conv conv) (questions done) ≡ false

-- a question to a user is of a conversation that waits for the reply; and where this is known of the questions before it,
-- it stands and has no other; it is asked behind a search that came to it
pub record AskFits (Known : Type 0) (done : List Deed) (kind : PromptKind) (conv : ℕ) (text : List ℕ) : Type 0 where
  pub follows : FollowsSearch kind conv text done
  pub phase : waits_on kind (standing_of done conv).phase ≡ true
  pub speaks : Known → stands done conv ≡ true
  pub alone : Known → (of : PromptKind) → asks_user done of conv ≡ false

-- whoever asks a user stands behind a deed
abbrev pub AskersStay : List Deed → Deed → Type 0
AskersStay done deed = (kind : PromptKind) → list_all (stands (deed ∷ done)) (askers done kind) ≡ true

-- a conversation has no question to its user
abbrev pub AsksNobody : Type 0 → List Deed → ℕ → Type 0
AsksNobody Known done conv = Known → (kind : PromptKind) → asks_user done kind conv ≡ false

abbrev pub FitsIf : Type 0 → List Deed → Deed → Type 0
FitsIf Known done (OfFids conn (Versioned msize)) = SizeFits msize × (Known → AskersStay done (OfFids conn (Versioned msize)))
FitsIf Known done (OfFids conn (Attached fid)) = is_open (fid_of done conn fid) ≡ false
FitsIf Known done (OfFids conn (Walked fid node)) = is_open (fid_of done conn fid) ≡ false
FitsIf Known done (OfFids conn (Opened fid mode)) = OpenFits done (fid_of done conn fid)
FitsIf Known done (OfFids conn (Clunked fid)) = (is_some (fid_of done conn fid) ≡ true) × (Known → AskersStay done (OfFids conn (Clunked fid)))
FitsIf Known done (OfConnection conn Hung) = Known → AskersStay done (OfConnection conn Hung)
FitsIf Known done (OfKeys conn (Edited edit)) = KeysFit (keys_of done) edit
FitsIf Known done (OfReplies conn (Awaited tag fid count)) = WaitFits done conn tag fid count
FitsIf Known done (OfReplies conn (Settled tag body)) = SettleFits done conn tag body
FitsIf Known done (OfTalk conv (calls.Sought found)) = found ≡ finds (standing_of done conv) (asking done) (keys_of done)
FitsIf Known done (OfTalk conv (calls.Consented agrees)) = AsksNobody Known done conv
FitsIf Known done (OfTalk conv calls.KeyTold) = AsksNobody Known done conv
FitsIf Known done (OfTalk conv calls.Shut) = AsksNobody Known done conv
FitsIf Known done (OfPrompts kind (side.Asked conv about)) = AskFits Known done kind conv about
FitsIf Known done (OfLog (side.Pushed line)) = IsLogged line done
FitsIf Known done (Raised conv) = RaiseFits Known done conv
FitsIf Known done deed = Unit {0}

-- what is known of the questions before an event: those to the authentication server and those to users
pub record IsKnown (done : List Deed) : Type 0 where
  pub asked : all_asked done ≡ true
  pub prompted : (kind : PromptKind) → all_prompted done kind ≡ true

abbrev pub Fits : List Deed → Deed → Type 0
Fits done deed = FitsIf (Unit {0}) done deed

-- where the questions are known, it fits as of a history
pub fits_of : (Known : Type 0) → Known → (done : List Deed) (deed : Deed) → FitsIf Known done deed → Fits done deed
fits_of Known known done (OfFids conn (Versioned msize)) f = (f.0, λ _. f.1 known)
fits_of Known known done (OfFids conn (Attached fid)) f = f
fits_of Known known done (OfFids conn (Walked fid node)) f = f
fits_of Known known done (OfFids conn (Opened fid mode)) f = f
fits_of Known known done (OfFids conn (Listed fid)) f = f
fits_of Known known done (OfFids conn (Browsed fid next)) f = f
fits_of Known known done (OfFids conn (Clunked fid)) f = (f.0, λ _. f.1 known)
fits_of Known known done (OfKeys conn (Edited edit)) f = f
fits_of Known known done (OfKeys conn Switched) f = f
fits_of Known known done (OfReplies conn (Answered tag body)) f = f
fits_of Known known done (OfReplies conn (Awaited tag fid count)) f = f
fits_of Known known done (OfReplies conn (Settled tag body)) f = f
fits_of Known known done (OfReplies conn (Flushed tag)) f = f
fits_of Known known done (OfReplies conn Taken) f = f
fits_of Known known done (OfConnection conn Entered) f = f
fits_of Known known done (OfConnection conn Hung) f = λ _. f known
fits_of Known known done (OfTalk conv (calls.Stored request)) f = f
fits_of Known known done (OfTalk conv (calls.CarriedOut word)) f = f
fits_of Known known done (OfTalk conv (calls.Sought found)) f = f
fits_of Known known done (OfTalk conv (calls.Consented agrees)) f = λ _. f known
fits_of Known known done (OfTalk conv calls.KeyTold) f = λ _. f known
fits_of Known known done (OfTalk conv calls.Shut) f = λ _. f known
fits_of Known known done (OfTalk conv (calls.Heard bytes)) f = f
fits_of Known known done (OfTalk conv calls.Unheard) f = f
fits_of Known known done (OfTalk conv calls.Roomless) f = f
fits_of Known known done (OfTalk conv calls.Took) f = f
fits_of Known known done (OfPrompts kind (side.Asked conv about)) f = record { follows = f.follows; phase = f.phase; speaks = λ _. f.speaks known; alone = λ _. f.alone known }
fits_of Known known done (OfPrompts kind side.Read) f = f
fits_of Known known done (OfPrompts kind (side.Replied tag)) f = f
fits_of Known known done (OfPrompts kind (side.Withdrawn conv)) f = f
fits_of Known known done (OfLog (side.Pushed line)) f = f
fits_of Known known done (OfLog side.Taken) f = f
fits_of Known known done (Raised conv) f = record { phase = f.phase; speaks = λ _. f.speaks known; alone = λ _. f.alone known }
fits_of Known known done HandedOut f = f
fits_of Known known done DropTaken f = f
fits_of Known known done Swept f = f
fits_of Known known done Halted f = f

-- what a line of ctl does on the connection
abbrev pub is_line : ℕ → Deed → Bool
is_line conn (OfKeys at deed) = eqb at conn
is_line conn deed = false

-- what a conversation meets, and what follows on it: questions, lines of the log, and what the reads are told that wait
abbrev pub is_met : Deed → Bool
is_met (OfTalk conv call) = true
is_met (OfPrompts kind call) = true
is_met (OfLog call) = true
is_met (Raised conv) = true
is_met (OfReplies conn (Settled tag body)) = true
is_met deed = false

-- the same, but that no question is raised
abbrev pub is_handed : Deed → Bool
is_handed (Raised conv) = false
is_handed deed = is_met deed

-- what a read or a write of a file does on the connection, but for its reply
abbrev pub is_spoken : ℕ → Deed → Bool
is_spoken conn (OfReplies at (Awaited tag fid count)) = eqb at conn
is_spoken conn deed = is_met deed

-- what conversations meet, and that the reads which were told are swept
abbrev pub is_told_so : Deed → Bool
is_told_so Swept = true
is_told_so deed = is_met deed

-- what a request does on the connection, but for its reply
abbrev pub is_asked : ℕ → Deed → Bool
is_asked conn (OfFids at deed) = eqb at conn
is_asked conn (OfKeys at deed) = eqb at conn
is_asked conn (OfReplies at (Flushed tag)) = eqb at conn
is_asked conn (OfReplies at (Awaited tag fid count)) = eqb at conn
is_asked conn deed = is_met deed

-- what an event of the connection does, or one that has none
abbrev pub is_done : ℕ → Deed → Bool
is_done conn (OfFids at deed) = eqb at conn
is_done conn (OfKeys at deed) = eqb at conn
is_done conn (OfConnection at deed) = eqb at conn
is_done conn (OfReplies at (Answered tag body)) = eqb at conn
is_done conn (OfReplies at (Flushed tag)) = eqb at conn
is_done conn (OfReplies at Taken) = eqb at conn
is_done conn (OfReplies at (Awaited tag fid count)) = eqb at conn
is_done conn (OfReplies at (Settled tag body)) = true
is_done conn (OfTalk conv call) = true
is_done conn (OfPrompts kind call) = true
is_done conn (OfLog call) = true
is_done conn (Raised conv) = true
is_done conn HandedOut = true
is_done conn DropTaken = true
is_done conn Swept = true
is_done conn Halted = true

-- the same, but that nothing is taken
abbrev pub is_said : ℕ → Deed → Bool
is_said conn (OfReplies at Taken) = false
is_said conn HandedOut = false
is_said conn DropTaken = false
is_said conn deed = is_done conn deed

-- a deed of this kind that fits keeps what holds
abbrev pub KeepsIf : Type 0 → (Deed → Bool) → (List Deed → Type 0) → Type 0
KeepsIf Known kind P = (done : List Deed) (deed : Deed) → kind deed ≡ true → FitsIf Known done deed → P done → P (deed ∷ done)

abbrev pub KeepsOf : (Deed → Bool) → (List Deed → Type 0) → Type 0
KeepsOf kind P = KeepsIf (Unit {0}) kind P

asked_by_spoken : (conn : ℕ) (deed : Deed) → is_spoken conn deed ≡ true → is_asked conn deed ≡ true
asked_by_spoken conn (OfTalk conv call) e = refl
asked_by_spoken conn (OfPrompts about doing) e = refl
asked_by_spoken conn (OfLog doing) e = refl
asked_by_spoken conn (Raised conv) e = refl
asked_by_spoken conn (OfFids at deed) e = absurd cc
asked_by_spoken conn (OfKeys at deed) e = absurd cc
asked_by_spoken conn (OfConnection at deed) e = absurd cc
asked_by_spoken conn (OfReplies at (Answered tag body)) e = absurd cc
asked_by_spoken conn (OfReplies at (Awaited tag fid count)) e = e
asked_by_spoken conn (OfReplies at (Settled tag body)) e = refl
asked_by_spoken conn (OfReplies at (Flushed tag)) e = absurd cc
asked_by_spoken conn (OfReplies at Taken) e = absurd cc
asked_by_spoken conn HandedOut e = absurd cc
asked_by_spoken conn DropTaken e = absurd cc
asked_by_spoken conn Swept e = absurd cc
asked_by_spoken conn Halted e = absurd cc

pub met_by_handed : (deed : Deed) → is_handed deed ≡ true → is_met deed ≡ true
met_by_handed (OfTalk conv call) e = refl
met_by_handed (OfPrompts about doing) e = refl
met_by_handed (OfLog doing) e = refl
met_by_handed (Raised conv) e = absurd cc
met_by_handed (OfFids at deed) e = absurd cc
met_by_handed (OfKeys at deed) e = absurd cc
met_by_handed (OfConnection at deed) e = absurd cc
met_by_handed (OfReplies at (Answered tag body)) e = absurd cc
met_by_handed (OfReplies at (Awaited tag fid count)) e = absurd cc
met_by_handed (OfReplies at (Settled tag body)) e = refl
met_by_handed (OfReplies at (Flushed tag)) e = absurd cc
met_by_handed (OfReplies at Taken) e = absurd cc
met_by_handed HandedOut e = absurd cc
met_by_handed DropTaken e = absurd cc
met_by_handed Swept e = absurd cc
met_by_handed Halted e = absurd cc

spoken_by_met : (conn : ℕ) (deed : Deed) → is_met deed ≡ true → is_spoken conn deed ≡ true
spoken_by_met conn (OfTalk conv call) e = refl
spoken_by_met conn (OfPrompts about doing) e = refl
spoken_by_met conn (OfLog doing) e = refl
spoken_by_met conn (Raised conv) e = refl
spoken_by_met conn (OfFids at deed) e = absurd cc
spoken_by_met conn (OfKeys at deed) e = absurd cc
spoken_by_met conn (OfConnection at deed) e = absurd cc
spoken_by_met conn (OfReplies at (Answered tag body)) e = absurd cc
spoken_by_met conn (OfReplies at (Awaited tag fid count)) e = absurd cc
spoken_by_met conn (OfReplies at (Settled tag body)) e = refl
spoken_by_met conn (OfReplies at (Flushed tag)) e = absurd cc
spoken_by_met conn (OfReplies at Taken) e = absurd cc
spoken_by_met conn HandedOut e = absurd cc
spoken_by_met conn DropTaken e = absurd cc
spoken_by_met conn Swept e = absurd cc
spoken_by_met conn Halted e = absurd cc

told_by_met : (deed : Deed) → is_met deed ≡ true → is_told_so deed ≡ true
told_by_met (OfTalk conv call) e = refl
told_by_met (OfPrompts about doing) e = refl
told_by_met (OfLog doing) e = refl
told_by_met (Raised conv) e = refl
told_by_met (OfFids at deed) e = absurd cc
told_by_met (OfKeys at deed) e = absurd cc
told_by_met (OfConnection at deed) e = absurd cc
told_by_met (OfReplies at (Answered tag body)) e = absurd cc
told_by_met (OfReplies at (Awaited tag fid count)) e = absurd cc
told_by_met (OfReplies at (Settled tag body)) e = refl
told_by_met (OfReplies at (Flushed tag)) e = absurd cc
told_by_met (OfReplies at Taken) e = absurd cc
told_by_met HandedOut e = absurd cc
told_by_met DropTaken e = absurd cc
told_by_met Swept e = absurd cc
told_by_met Halted e = absurd cc

said_by_told : (conn : ℕ) (deed : Deed) → is_told_so deed ≡ true → is_said conn deed ≡ true
said_by_told conn (OfTalk conv call) e = refl
said_by_told conn (OfPrompts about doing) e = refl
said_by_told conn (OfLog doing) e = refl
said_by_told conn (Raised conv) e = refl
said_by_told conn (OfFids at deed) e = absurd cc
said_by_told conn (OfKeys at deed) e = absurd cc
said_by_told conn (OfConnection at deed) e = absurd cc
said_by_told conn (OfReplies at (Answered tag body)) e = absurd cc
said_by_told conn (OfReplies at (Awaited tag fid count)) e = absurd cc
said_by_told conn (OfReplies at (Settled tag body)) e = refl
said_by_told conn (OfReplies at (Flushed tag)) e = absurd cc
said_by_told conn (OfReplies at Taken) e = absurd cc
said_by_told conn HandedOut e = absurd cc
said_by_told conn DropTaken e = absurd cc
said_by_told conn Swept e = refl
said_by_told conn Halted e = absurd cc

pub asked_by_met : (conn : ℕ) (deed : Deed) → is_met deed ≡ true → is_asked conn deed ≡ true
asked_by_met conn deed e = asked_by_spoken conn deed (spoken_by_met conn deed e)

pub done_by_said : (conn : ℕ) (deed : Deed) → is_said conn deed ≡ true → is_done conn deed ≡ true
done_by_said conn (OfTalk conv call) e = e
done_by_said conn (OfPrompts about doing) e = e
done_by_said conn (OfLog doing) e = e
done_by_said conn (Raised conv) e = e
done_by_said conn (OfFids at deed) e = e
done_by_said conn (OfKeys at deed) e = e
done_by_said conn (OfConnection at deed) e = e
done_by_said conn (OfReplies at (Answered tag body)) e = e
done_by_said conn (OfReplies at (Awaited tag fid count)) e = e
done_by_said conn (OfReplies at (Settled tag body)) e = e
done_by_said conn (OfReplies at (Flushed tag)) e = e
done_by_said conn (OfReplies at Taken) e = absurd cc
done_by_said conn HandedOut e = absurd cc
done_by_said conn DropTaken e = absurd cc
done_by_said conn Swept e = e
done_by_said conn Halted e = e

pub said_by_asked : (conn : ℕ) (deed : Deed) → is_asked conn deed ≡ true → is_said conn deed ≡ true
said_by_asked conn (OfTalk conv call) e = refl
said_by_asked conn (OfPrompts about doing) e = refl
said_by_asked conn (OfLog doing) e = refl
said_by_asked conn (Raised conv) e = refl
said_by_asked conn (OfFids at deed) e = e
said_by_asked conn (OfKeys at deed) e = e
said_by_asked conn (OfConnection at deed) e = absurd cc
said_by_asked conn (OfReplies at (Answered tag body)) e = absurd cc
said_by_asked conn (OfReplies at (Awaited tag fid count)) e = e
said_by_asked conn (OfReplies at (Settled tag body)) e = refl
said_by_asked conn (OfReplies at (Flushed tag)) e = e
said_by_asked conn (OfReplies at Taken) e = absurd cc
said_by_asked conn HandedOut e = absurd cc
said_by_asked conn DropTaken e = absurd cc
said_by_asked conn Swept e = absurd cc
said_by_asked conn Halted e = absurd cc

pub done_by_asked : (conn : ℕ) (deed : Deed) → is_asked conn deed ≡ true → is_done conn deed ≡ true
done_by_asked conn deed e = done_by_said conn deed (said_by_asked conn deed e)

pub done_by_told : (conn : ℕ) (deed : Deed) → is_told_so deed ≡ true → is_done conn deed ≡ true
done_by_told conn deed e = done_by_said conn deed (said_by_told conn deed e)

pub said_of_done : (Known : Type 0) (P : List Deed → Type 0) (conn : ℕ) → KeepsIf Known (is_done conn) P → KeepsIf Known (is_said conn) P
said_of_done Known P conn k done deed kind fits p = k done deed (done_by_said conn deed kind) fits p

pub asked_of_said : (Known : Type 0) (P : List Deed → Type 0) (conn : ℕ) → KeepsIf Known (is_said conn) P → KeepsIf Known (is_asked conn) P
asked_of_said Known P conn k done deed kind fits p = k done deed (said_by_asked conn deed kind) fits p

pub asked_of_done : (Known : Type 0) (P : List Deed → Type 0) (conn : ℕ) → KeepsIf Known (is_done conn) P → KeepsIf Known (is_asked conn) P
asked_of_done Known P conn k done deed kind fits p = k done deed (done_by_asked conn deed kind) fits p

pub told_of_said : (Known : Type 0) (P : List Deed → Type 0) (conn : ℕ) → KeepsIf Known (is_said conn) P → KeepsIf Known is_told_so P
told_of_said Known P conn k done deed kind fits p = k done deed (said_by_told conn deed kind) fits p

pub met_of_spoken : (Known : Type 0) (P : List Deed → Type 0) (conn : ℕ) → KeepsIf Known (is_spoken conn) P → KeepsIf Known is_met P
met_of_spoken Known P conn k done deed kind fits p = k done deed (spoken_by_met conn deed kind) fits p

pub spoken_of_asked : (Known : Type 0) (P : List Deed → Type 0) (conn : ℕ) → KeepsIf Known (is_asked conn) P → KeepsIf Known (is_spoken conn) P
spoken_of_asked Known P conn k done deed kind fits p = k done deed (asked_by_spoken conn deed kind) fits p

pub handed_of_met : (Known : Type 0) (P : List Deed → Type 0) → KeepsIf Known is_met P → KeepsIf Known is_handed P
handed_of_met Known P k done deed kind fits p = k done deed (met_by_handed deed kind) fits p

pub met_of_asked : (Known : Type 0) (P : List Deed → Type 0) (conn : ℕ) → KeepsIf Known (is_asked conn) P → KeepsIf Known is_met P
met_of_asked Known P conn k done deed kind fits p = k done deed (asked_by_met conn deed kind) fits p

pub met_of_told : (Known : Type 0) (P : List Deed → Type 0) → KeepsIf Known is_told_so P → KeepsIf Known is_met P
met_of_told Known P k done deed kind fits p = k done deed (told_by_met deed kind) fits p

-- of a line of ctl nothing has to be known of questions
pub lines_of_asked : (Known : Type 0) (P : List Deed → Type 0) (conn : ℕ) → KeepsIf Known (is_asked conn) P → KeepsOf (is_line conn) P
lines_of_asked Known P conn k done (OfKeys at (Edited edit)) kind fits p = k done (OfKeys at (Edited edit)) kind fits p
lines_of_asked Known P conn k done (OfKeys at Switched) kind fits p = k done (OfKeys at Switched) kind fits p
lines_of_asked Known P conn k done (OfFids at deed) kind fits p = absurd cc
lines_of_asked Known P conn k done (OfReplies at deed) kind fits p = absurd cc
lines_of_asked Known P conn k done (OfConnection at deed) kind fits p = absurd cc
lines_of_asked Known P conn k done (OfTalk conv call) kind fits p = absurd cc
lines_of_asked Known P conn k done (Raised conv) kind fits p = absurd cc
lines_of_asked Known P conn k done HandedOut kind fits p = absurd cc
lines_of_asked Known P conn k done DropTaken kind fits p = absurd cc
lines_of_asked Known P conn k done (OfPrompts about doing) kind fits p = absurd cc
lines_of_asked Known P conn k done (OfLog doing) kind fits p = absurd cc
lines_of_asked Known P conn k done Swept kind fits p = absurd cc
lines_of_asked Known P conn k done Halted kind fits p = absurd cc

pub same_number : (n : ℕ) → eqb n n ≡ true
same_number n = eq-eqb n n refl
