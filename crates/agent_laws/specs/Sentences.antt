-- What the laws say, each sentence by its name.
use Rattle.std.specs.Prelude.{◌≡◌, ◌≤◌, ◌<◌, ◌⊎◌, ◌+◌, ℕ, List, [], ◌∷◌, ◌++◌, All, Ok, Err, None, Some, is_some, true, false, codes, drop, length, map, reverse, take, not}
use Rattle.std.specs.List.{IsDistinct}
use Rattle.nine.specs.Messages.{IsReply, r_frame}
use Rattle.nine.specs.Decoding.{r_reading, request_of}
use Rattle.nine.specs.declared.message.TBody.{TBody}
use Rattle.nine.specs.declared.message.TBody.TheVariants.{Read}
use Rattle.nine.specs.declared.message.RMsg.{RMsg}
use Rattle.nine.specs.declared.message.RBody.TheVariants as r
use Rattle.file_tree.specs.declared.tree.Node.{Node}
use Rattle.file_tree.specs.declared.tree.Node.TheVariants.{Ctl, Rpc, Confirm, Needkey}
use Rattle.file_tree.specs.Tree.{is_exclusive}
use Rattle.file_tree.specs.Calls.{node_of}
use Rattle.key_lists.specs.Lists.{KeyList, KeyEntry}
use Rattle.key_lists.specs.Edits.{standing}
use Rattle.key_lists.specs.Listing.{list_text}
use Rattle.key_lists.specs.CtlLines.{after_lines, carried_out, lines_fault}
use Rattle.roles.specs.Starts.{Start}
use Rattle.roles.specs.Talks.{Call as Move}
use Rattle.talks.specs.Protocols.{needs}
use Rattle.agent_laws.specs.Shown.{asks_in_public, shown_need}
use Rattle.talks.specs.Calls.{AsksConsent, AsksKey, Found, Sought}
use Rattle.talks.specs.Standings.{finds}
use Rattle.agent_history.specs.declared.event.Event.{Event}
use Rattle.agent_history.specs.declared.event.Event.TheVariants.{Take, TakeAsk, Request}
use Rattle.agent_history.specs.declared.event.StepAnswer.TheVariants.{Ask, DropCall, NoAsk}
use Rattle.wire_base.specs.declared.shape.Shape.{Shape}
use Rattle.wire_base.specs.declared.shape.Shape.TheVariants.{Challenge}
use Rattle.agent_history.specs.Deeds.{Deed, KeyDeed, OfFids, OfKeys, Listed, edits_of, fid_of, held_by, holder_of, keys_of, msize_of, next_of, text_of, OfTalk}
use Rattle.agent_history.specs.Replies.{has_settled, replies, taken, untaken, waits, waits_for}
use Rattle.agent_history.specs.Conversations.{given_up_by, chosen_at, conv_of, opened_talks, questions, raised, speakers, asking, standing_of, Question, Drop, NoneDue, DropDue, QuestionDue, due}
use Rattle.agent_history.specs.Requests.{Call, after_frame, body_to, effective, granted, least_msize, lines_done, most_msize, most_talks, piece, reply_of, is_rpc}
use Rattle.agent_history.specs.Histories.{History, answer, deeds, does, has_stopped}
use Rattle.agent_laws.specs.Laws.{AddAlike, Adds, AllFollow, AllLogged, AllSearched, AreHeld, AreWaiting, HasFirstRefused, IsBehind, IsFirstRefused, SameButSecrets, StoodOnce, all_asked, all_open, given, gives, gives_content, has_connection, has_conversed, has_open, hidden_deed, is_asked_for, is_of, is_of_talks, is_on, lines_told, longest_reply, may_err_and_act, may_wait, none_concerns, none_sets_text, put_out, reply_to, rise_below, AllTold, is_same_place, is_edit, is_talk, last_asked, is_request, all_prompted, in_public, unsized}
use Rattle.agent_history.specs.SideFiles.{askers, file_of}
use Rattle.agent_laws.specs.Redaction.{redact}
use Rattle.nine.specs.declared.message.TMsg.{TMsg}
use Rattle.side_files.specs.declared.line.PromptKind.{PromptKind}

-- ---- keys are the lines in order

abbrev pub KeysAreTheLines : Type 0
KeysAreTheLines = (done : List Deed) → (keys_of done).keys ≡ standing 0 (reverse (edits_of done))

-- ---- an event changes its own connection

abbrev pub ChangesItsOwn : Type 0
ChangesItsOwn = (event : Event) (history : History) (conn : ℕ) → is_on conn event ≡ true
    → Adds (is_of conn) (deeds history) (deeds (event ∷ history))

abbrev pub OthersChangeNone : Type 0
OthersChangeNone = (event : Event) (history : History) → has_connection event ≡ false
    → Adds is_of_talks (deeds history) (deeds (event ∷ history))

-- ---- a request acts on its connection

abbrev pub ActsOnItsConnection : Type 0
ActsOnItsConnection = (done : List Deed) (call : Call) (frame : List ℕ)
    → Adds (is_of call.conn) done (after_frame done call frame)

-- ---- a fid stays until a deed that concerns it

abbrev pub FidStays : Type 0
FidStays = (more done : List Deed) (conn fid : ℕ) → none_concerns more conn fid ≡ true
    → fid_of (more ++ done) conn fid ≡ fid_of done conn fid

abbrev pub EventLeavesFid : Type 0
EventLeavesFid = (event : Event) (history : History) (more : List Deed) (conn fid : ℕ)
    → deeds (event ∷ history) ≡ more ++ deeds history
    → none_concerns more conn fid ≡ true → fid_of (deeds (event ∷ history)) conn fid ≡ fid_of (deeds history) conn fid

-- ---- other connections change no fid

abbrev pub OthersLeaveFids : Type 0
OthersLeaveFids = (event : Event) (history : History) (conn fid : ℕ) → is_on conn event ≡ false
    → has_stopped (event ∷ history) ≡ false
    → fid_of (deeds (event ∷ history)) conn fid ≡ fid_of (deeds history) conn fid

abbrev pub OthersLeaveTexts : Type 0
OthersLeaveTexts = (event : Event) (history : History) (conn fid : ℕ) → is_on conn event ≡ false
    → has_stopped (event ∷ history) ≡ false
    → text_of (deeds (event ∷ history)) conn fid ≡ text_of (deeds history) conn fid

abbrev pub OthersLeaveNexts : Type 0
OthersLeaveNexts = (event : Event) (history : History) (conn fid : ℕ) → is_on conn event ≡ false
    → has_stopped (event ∷ history) ≡ false
    → next_of (deeds (event ∷ history)) conn fid ≡ next_of (deeds history) conn fid

abbrev pub OthersLeaveCounts : Type 0
OthersLeaveCounts = (event : Event) (history : History) (conn : ℕ) → is_on conn event ≡ false
    → has_stopped (event ∷ history) ≡ false
    → held_by (deeds (event ∷ history)) conn ≡ held_by (deeds history) conn

abbrev pub OthersLeaveSizes : Type 0
OthersLeaveSizes = (event : Event) (history : History) (conn : ℕ) → is_on conn event ≡ false
    → has_stopped (event ∷ history) ≡ false
    → msize_of (deeds (event ∷ history)) conn ≡ msize_of (deeds history) conn

-- ---- a fid held counts

abbrev pub FidsHeldAreCounted : Type 0
FidsHeldAreCounted = (history : History) (conn : ℕ) → (fids : List ℕ) × AreHeld (deeds history) conn fids

-- ---- an exclusive file is open once

abbrev pub IsOpenOnce : Type 0
IsOpenOnce = (history : History) (node : Node) (conn fid other another : ℕ) → is_exclusive node ≡ true
    → has_open (deeds history) node conn fid ≡ true → has_open (deeds history) node other another ≡ true
    → (conn ≡ other) × (fid ≡ another)

abbrev pub OpenerHolds : Type 0
OpenerHolds = (history : History) (node : Node) (conn fid : ℕ) → is_exclusive node ≡ true
    → has_open (deeds history) node conn fid ≡ true → holder_of (deeds history) node ≡ Some (conn, fid)

abbrev pub HolderOpened : Type 0
HolderOpened = (history : History) (node : Node) (conn fid : ℕ) → holder_of (deeds history) node ≡ Some (conn, fid)
    → has_open (deeds history) node conn fid ≡ true

-- ---- ctl reads a list that stood

abbrev pub TextsStood : Type 0
TextsStood = (history : History) (conn fid : ℕ) → StoodOnce history (text_of (deeds history) conn fid)

abbrev pub ReadsStood : Type 0
ReadsStood = (history : History) (call : Call) (fid offset count : ℕ)
    → node_of (fid_of (deeds history) call.conn fid) ≡ Ctl
    → (text : List ℕ) × StoodOnce history text
    × (reply_of (deeds history) call (Read fid offset count)
    ≡ Some (r.Read (piece offset (effective count (msize_of (deeds history) call.conn)) text)))

abbrev pub ListedStays : Type 0
ListedStays = (more done : List Deed) (conn fid : ℕ) → none_sets_text more conn fid ≡ true
    → text_of (more ++ OfFids conn (Listed fid) ∷ done) conn fid ≡ list_text (keys_of done)

-- ---- a refused request changes nothing

abbrev pub RefusedChangesNothing : Type 0
RefusedChangesNothing = (done : List Deed) (call : Call) (frame text : List ℕ) → granted done call frame ≡ Err text
    → after_frame done call frame ≡ done

abbrev pub RefusedIsTold : Type 0
RefusedIsTold = (done : List Deed) (call : Call) (frame text : List ℕ) → granted done call frame ≡ Err text
    → body_to done call frame ≡ Some (r.Error text)

abbrev pub ErrorChangesNothing : Type 0
ErrorChangesNothing = (done : List Deed) (call : Call) (frame text : List ℕ)
    → body_to done call frame ≡ Some (r.Error text)
    → (after_frame done call frame ≡ done)
    ⊎ ((body : TBody) × (granted done call frame ≡ Ok body) × (may_err_and_act done call body ≡ true))

-- ---- lines stand before the first refused

abbrev pub FrontStands : Type 0
FrontStands = (keys : KeyList) (lines front : List (List ℕ)) (line : List ℕ) (later : List (List ℕ)) (text : List ℕ)
    → IsFirstRefused keys lines front line later text → carried_out keys lines ≡ carried_out keys front

abbrev pub FirstIsTold : Type 0
FirstIsTold = (keys : KeyList) (lines front : List (List ℕ)) (line : List ℕ) (later : List (List ℕ)) (text : List ℕ)
    → IsFirstRefused keys lines front line later text → lines_fault keys lines ≡ Some text

abbrev pub FirstIsFound : Type 0
FirstIsFound = (keys : KeyList) (lines : List (List ℕ)) (text : List ℕ) → lines_fault keys lines ≡ Some text
    → HasFirstRefused keys lines text

-- ---- a write does what its lines do

abbrev pub WriteMakesKeys : Type 0
WriteMakesKeys = (done : List Deed) (conn : ℕ) (lines : List (List ℕ))
    → keys_of (lines_done conn (carried_out (keys_of done) lines) done) ≡ after_lines (keys_of done) lines

-- ---- a reply is taken once

abbrev pub GivenInOrder : Type 0
GivenInOrder = (history : History) (conn : ℕ)
    → given history conn ≡ take (taken (deeds history) conn) (reverse (replies (deeds history) conn))

abbrev pub GivenAndLeft : Type 0
GivenAndLeft = (history : History) (conn : ℕ)
    → given history conn ++ untaken (deeds history) conn ≡ reverse (replies (deeds history) conn)

abbrev pub LeftAfterTake : Type 0
LeftAfterTake = (history : History) (conn : ℕ) → gives history conn ≡ true
    → untaken (deeds (Take conn ∷ history)) conn ≡ drop 1 (untaken (deeds history) conn)

abbrev pub FramesPutOut : Type 0
FramesPutOut = (history : History) (conn : ℕ) → put_out history conn ≡ map r_frame (given history conn)

-- ---- a reply fits what was agreed

abbrev pub ReplyFits : Type 0
ReplyFits = (history : History) (conn : ℕ) (frame word : List ℕ) (reply : RMsg)
    → reply_to (deeds history) conn frame word ≡ Some reply
    → length (r_frame reply) ≤ longest_reply (msize_of (deeds history) conn)

abbrev pub AgreedBetween : Type 0
AgreedBetween = (history : History) (conn msize : ℕ) → msize_of (deeds history) conn ≡ Some msize
    → (least_msize ≤ msize) × (msize ≤ most_msize)

abbrev pub FramesFit : Type 0
FramesFit = (history : History) (conn : ℕ) → All (λ frame. length frame ≤ most_msize) (put_out history conn)

abbrev pub OthersFit : Type 0
OthersFit = (done : List Deed) (conn : ℕ) (frame word : List ℕ) (reply : RMsg)
    → reply_to done conn frame word ≡ Some reply
    → gives_content reply.body ≡ false → length (r_frame reply) ≤ least_msize

abbrev pub ToldIsAgreed : Type 0
ToldIsAgreed = (done : List Deed) (call : Call) (msize : ℕ) (frame : List ℕ)
    → body_to done call frame ≡ Some (r.Version msize (codes "9P2000"))
    → msize_of (after_frame done call frame) call.conn ≡ Some msize

abbrev pub ReplyIsValid : Type 0
ReplyIsValid = (done : List Deed) (conn : ℕ) (frame word : List ℕ) (reply : RMsg) → All (λ b. b < 256) frame
    → reply_to done conn frame word ≡ Some reply → IsReply (r_frame reply) reply

abbrev pub ReplyIsRead : Type 0
ReplyIsRead = (done : List Deed) (conn : ℕ) (frame word : List ℕ) (reply : RMsg) → All (λ b. b < 256) frame
    → reply_to done conn frame word ≡ Some reply → r_reading (r_frame reply) ≡ Ok reply

-- ---- reads that wait

abbrev pub ReadsWait : Type 0
ReadsWait = (history : History) (conn : ℕ) → AreWaiting (deeds history) conn (waits (deeds history) conn)

abbrev pub SettledAreSwept : Type 0
SettledAreSwept = (history : History) → has_settled (deeds history) ≡ false

abbrev pub SettledAreTold : Type 0
SettledAreTold = (history : History) → AllTold (deeds history)

abbrev pub OnlyReadsWait : Type 0
OnlyReadsWait = (done : List Deed) (call : Call) (frame : List ℕ) → body_to done call frame ≡ None
    → (body : TBody) × (granted done call frame ≡ Ok body) × (may_wait done call body ≡ true)

abbrev pub WaitsBehind : Type 0
WaitsBehind = (done : List Deed) (call : Call) (frame : List ℕ) → body_to done call frame ≡ None
    → (fid : ℕ) × (count : ℕ)
    × IsBehind (waits done call.conn) (waits (after_frame done call frame) call.conn)
    (record { tag = call.tag; fid = fid; count = count; reply = None })

abbrev pub WaitingReadsAreAsked : Type 0
WaitingReadsAreAsked = (history : History) (conn fid conv : ℕ) → waits_for (deeds history) conn fid ≡ true
    → conv_of (deeds history) conn fid ≡ Some conv
    → is_asked_for (deeds history) conv (standing_of (deeds history) conv).phase ≡ true

-- ---- conversations

abbrev pub OpenersSpeak : Type 0
OpenersSpeak = (history : History) (conn fid : ℕ)
    → is_some (conv_of (deeds history) conn fid) ≡ has_open (deeds history) Rpc conn fid

abbrev pub OpenersSpeakOnce : Type 0
OpenersSpeakOnce = (history : History) → IsDistinct is_same_place (speakers (deeds history))

abbrev pub SpeakersAreFew : Type 0
SpeakersAreFew = (history : History) → length (speakers (deeds history)) ≤ most_talks

abbrev pub SpeakersRise : Type 0
SpeakersRise = (history : History)
    → rise_below (opened_talks (deeds history)) (map (λ s. s.conv) (speakers (deeds history))) ≡ true

-- ---- questions for the authentication server

abbrev pub QuestionsAreAsked : Type 0
QuestionsAreAsked = (history : History) → all_asked (deeds history) ≡ true

abbrev pub QuestionsRise : Type 0
QuestionsRise = (history : History)
    → rise_below (raised (deeds history) + 1) (map (λ q. q.call) (questions (deeds history))) ≡ true

abbrev pub QuestionsArePut : Type 0
QuestionsArePut = (history : History) (question : Question) → has_stopped history ≡ false
    → due (deeds history) ≡ QuestionDue question
    → (request : List ℕ) × (shape : Shape) × (answer history TakeAsk ≡ (Ask question.call question.conv shape, request))

abbrev pub RequestsRaiseOne : Type 0
RequestsRaiseOne = (history : History) (conn : ℕ) (frame word : List ℕ)
    → raised (deeds (Request conn frame word ∷ history)) ≤ raised (deeds history) + 1

abbrev pub OthersRaiseNone : Type 0
OthersRaiseNone = (event : Event) (history : History) → is_request event ≡ false
    → raised (deeds (event ∷ history)) ≡ raised (deeds history)

-- ---- connections that are given up

abbrev pub DropsArePut : Type 0
DropsArePut = (history : History) (drop : Drop) → has_stopped history ≡ false → due (deeds history) ≡ DropDue drop
    → answer history TakeAsk ≡ (DropCall drop.conv, [])

abbrev pub NothingIsPut : Type 0
NothingIsPut = (history : History) → has_stopped history ≡ false → due (deeds history) ≡ NoneDue
    → answer history TakeAsk ≡ (NoAsk, [])

abbrev pub DropsComeOnce : Type 0
DropsComeOnce = (history more : History) (conv : ℕ) → answer history TakeAsk ≡ (DropCall conv, [])
    → answer (more ++ TakeAsk ∷ history) TakeAsk ≡ (DropCall conv, []) → ⊥

abbrev pub DropsFollowChallenges : Type 0
DropsFollowChallenges = (history : History) (conv : ℕ) → answer history TakeAsk ≡ (DropCall conv, [])
    → last_asked history conv ≡ Some Challenge

-- ---- a search is over the keys of its moment

abbrev pub SearchesAreOfTheMoment : Type 0
SearchesAreOfTheMoment = (history : History) → AllSearched (deeds history)

abbrev pub EditsOrTalks : Type 0
EditsOrTalks = (event : Event) (history : History)
    → Adds (λ deed. not (is_edit deed)) (deeds history) (deeds (event ∷ history))
    ⊎ Adds (λ deed. not (is_talk deed)) (deeds history) (deeds (event ∷ history))

abbrev pub SearchesKeysBefore : Type 0
SearchesKeysBefore = (event : Event) (history : History) (later earlier : List Deed) (conv : ℕ) (found : Found)
    → deeds (event ∷ history) ≡ later ++ OfTalk conv (Sought found) ∷ (earlier ++ deeds history)
    → found ≡ finds (standing_of (earlier ++ deeds history) conv) (asking (earlier ++ deeds history))
    (keys_of (deeds history))

abbrev pub ChosenStays : Type 0
ChosenStays = (done : List Deed) (at conn fid : ℕ) (deed : KeyDeed)
    → chosen_at (OfKeys at deed ∷ done) conn fid ≡ chosen_at done conn fid

abbrev pub ChosenStaysWhileItStands : Type 0
ChosenStaysWhileItStands = (event : Event) (history : History) (conn fid conv : ℕ) (key : KeyEntry)
    → conv_of (deeds history) conn fid ≡ Some conv → conv_of (deeds (event ∷ history)) conn fid ≡ Some conv
    → chosen_at (deeds history) conn fid ≡ Some key → chosen_at (deeds (event ∷ history)) conn fid ≡ Some key

-- ---- ctl shows no secret

abbrev pub ListHides : Type 0
ListHides = (a b : List Deed) → SameButSecrets a b → list_text (keys_of a) ≡ list_text (keys_of b)

abbrev pub TextsHide : Type 0
TextsHide = (a b : List Deed) → SameButSecrets a b → (conn fid : ℕ) → text_of a conn fid ≡ text_of b conn fid

abbrev pub FidsHide : Type 0
FidsHide = (a b : List Deed) → SameButSecrets a b → (conn fid : ℕ) → fid_of a conn fid ≡ fid_of b conn fid

abbrev pub NextsHide : Type 0
NextsHide = (a b : List Deed) → SameButSecrets a b → (conn fid : ℕ) → next_of a conn fid ≡ next_of b conn fid

abbrev pub CountsHide : Type 0
CountsHide = (a b : List Deed) → SameButSecrets a b → (conn : ℕ) → held_by a conn ≡ held_by b conn

abbrev pub HoldersHide : Type 0
HoldersHide = (a b : List Deed) → SameButSecrets a b → (node : Node) → holder_of a node ≡ holder_of b node

abbrev pub SizesHide : Type 0
SizesHide = (a b : List Deed) → SameButSecrets a b → (conn : ℕ) → msize_of a conn ≡ msize_of b conn

abbrev pub RepliesHide : Type 0
RepliesHide = (a b : List Deed) → SameButSecrets a b → has_conversed a ≡ false → (conn : ℕ) (frame word : List ℕ)
    → reply_to a conn frame word ≡ reply_to b conn frame word

abbrev pub DeedsHide : Type 0
DeedsHide = (a b : List Deed) → SameButSecrets a b → has_conversed a ≡ false → (call : Call) (frame : List ℕ)
    → SameButSecrets (after_frame a call frame) (after_frame b call frame)

abbrev pub NoneDeletesBySecret : Type 0
NoneDeletesBySecret = (history : History) → all_open (deeds history) ≡ true

-- ---- no later answer tells a secret

abbrev pub NoAnswerTells : Type 0
NoAnswerTells = (history more : History) (event one other : Event)
    → map hidden_deed (does (deeds history) one) ≡ map hidden_deed (does (deeds history) other)
    → has_conversed (deeds (more ++ one ∷ history)) ≡ false
    → answer (more ++ one ∷ history) event ≡ answer (more ++ other ∷ history) event

-- ---- a write hides its secrets

abbrev pub WritesAlike : Type 0
WritesAlike = (conn : ℕ) (done : List Deed) (front : List (List ℕ)) (one other : List ℕ) (later : List (List ℕ))
    → all_open done ≡ true
    → AddAlike (after_lines (keys_of done) front) one other
    → SameButSecrets (lines_done conn (carried_out (keys_of done) (front ++ one ∷ later)) done)
    (lines_done conn (carried_out (keys_of done) (front ++ other ∷ later)) done)

abbrev pub WritesToldAlike : Type 0
WritesToldAlike = (keys : KeyList) (front : List (List ℕ)) (one other : List ℕ) (later : List (List ℕ))
    → AddAlike (after_lines keys front) one other
    → lines_fault keys (front ++ one ∷ later) ≡ lines_fault keys (front ++ other ∷ later)

-- ---- questions to users

abbrev pub UsersAreAsked : Type 0
UsersAreAsked = (history : History) (kind : PromptKind) → all_prompted (deeds history) kind ≡ true

abbrev pub QuestionsFollowSearches : Type 0
QuestionsFollowSearches = (history : History) → AllFollow (deeds history)

-- ---- reads of all files but rpc are public

abbrev pub ReadsArePublic : Type 0
ReadsArePublic = (one other : History) → in_public (deeds one) ≡ in_public (deeds other)
    → (call : Call) (frame : List ℕ) (m : TMsg) (fid offset count : ℕ) → request_of frame ≡ Some m
    → m.body ≡ Read fid offset count
    → is_rpc (node_of (fid_of (deeds other) call.conn fid)) ≡ false
    → body_to (deeds one) call frame ≡ body_to (deeds other) call frame

abbrev pub WaitsArePublic : Type 0
WaitsArePublic = (one other : History) → in_public (deeds one) ≡ in_public (deeds other) → (conn : ℕ)
    → waits (deeds one) conn ≡ waits (deeds other) conn

-- ---- histories of one redaction

abbrev pub RedactionsArePublic : Type 0
RedactionsArePublic = (one other : History) → redact one ≡ redact other
    → in_public (unsized (deeds one)) ≡ in_public (unsized (deeds other))

abbrev pub ReadsAreRedacted : Type 0
ReadsAreRedacted = (one other : History) → redact one ≡ redact other
    → (call : Call) (frame : List ℕ) (m : TMsg) (fid offset count : ℕ) → request_of frame ≡ Some m
    → m.body ≡ Read fid offset count
    → is_rpc (node_of (fid_of (deeds other) call.conn fid)) ≡ false
    → body_to (deeds one) call frame ≡ body_to (deeds other) call frame

abbrev pub WaitsAreRedacted : Type 0
WaitsAreRedacted = (one other : History) → redact one ≡ redact other → (conn : ℕ)
    → waits (unsized (deeds one)) conn ≡ waits (unsized (deeds other)) conn

abbrev pub LinesAreRedacted : Type 0
LinesAreRedacted = (one other : History) → redact one ≡ redact other
    → lines_told (deeds one) ≡ lines_told (deeds other)

-- ---- what is searched for

abbrev pub SearchesArePublic : Type 0
SearchesArePublic = (start : Start) (talk : List Move) → asks_in_public (shown_need (needs start talk)) ≡ true

-- ---- files that nobody has open

abbrev pub NoneAsksConsent : Type 0
NoneAsksConsent = (done : List Deed) (conv : ℕ) (key : KeyEntry) → holder_of done Confirm ≡ None
    → finds (standing_of done conv) (asking done) (keys_of done) ≡ AsksConsent key → ⊥

abbrev pub NoneAsksKey : Type 0
NoneAsksKey = (done : List Deed) (conv : ℕ) → holder_of done Needkey ≡ None
    → finds (standing_of done conv) (asking done) (keys_of done) ≡ AsksKey → ⊥

abbrev pub ClosedAsksNobody : Type 0
ClosedAsksNobody = (deed : Deed) (done : List Deed) (kind : PromptKind)
    → holder_of (given_up_by deed done) (file_of kind) ≡ None → askers (given_up_by deed done) kind ≡ []

-- ---- the log

abbrev pub LinesTell : Type 0
LinesTell = (history : History) → AllLogged (deeds history)
