-- Words in which the laws of the definitions are stated: the connection of a deed, the deeds that concern a fid, the
-- fids that are held, files that are open, lists that stood at one moment, lines up to the first refused one, the
-- replies that were given and how long they may be, and deeds that differ in secrets alone. After section 5 of the
-- Plan 9 manual (fids, msize) and factotum(4) (ctl, whose keys are shown without their secrets).
use Rattle.std.specs.Prelude.{◌≡◌, ◌≤◌, ◌⊎◌, ℕ, ◌-◌, List, [], ◌∷◌, ◌++◌, length, take, map, Bool, true, false, not, ◌&&◌, ◌||◌, ◌==◌, nat_eq, nat_lt, All, Option, Some, None, is_some, option_map, Ok, Err, if◌then◌else◌, filter, find}
use Rattle.std.specs.List.{list_any, list_all, IsDistinct}
use Rattle.nine.specs.declared.message.RMsg.{RMsg}
use Rattle.nine.specs.declared.message.TBody.{TBody}
use Rattle.nine.specs.declared.message.TBody.TheVariants as t
use Rattle.nine.specs.declared.message.RBody.{RBody}
use Rattle.nine.specs.declared.message.RBody.TheVariants as r
use Rattle.attr_tuples.specs.declared.attr.Attr.{Attr}
use Rattle.attr_tuples.specs.Printing.{hidden, public_text}
use Rattle.file_tree.specs.declared.tree.Node.{Node}
use Rattle.file_tree.specs.declared.tree.Node.TheVariants.{Rpc}
use Rattle.file_tree.specs.declared.tree.FidState.{FidState}
use Rattle.file_tree.specs.Calls.{is_open, node_of}
use Rattle.key_lists.specs.Lists.{KeyEntry, KeyList, add_fault, tells_secret}
use Rattle.key_lists.specs.Edits.{KeyEdit, Add, Delete}
use Rattle.key_lists.specs.Listing.{list_text}
use Rattle.wire_base.specs.declared.shape.Shape.{Shape}
use Rattle.agent_history.specs.declared.event.StepAnswer.{StepAnswer}
use Rattle.agent_history.specs.declared.event.StepAnswer.TheVariants.{Ask}
use Rattle.agent_history.specs.declared.event.Event.{Event}
use Rattle.agent_history.specs.declared.event.Event.TheVariants.{Request, Hang, Take}
use Rattle.talks.specs.declared.answer.RpcAnswer.{RpcAnswer}
use Rattle.talks.specs.Calls as calls
use Rattle.side_files.specs.declared.line.PromptKind.{PromptKind}
use Rattle.side_files.specs.Calls as side
use Rattle.side_files.specs.Lines.{First, TooLong, found}
use Rattle.side_files.specs.declared.line.PromptKind.TheVariants as k
use Rattle.talks.specs.Standings.{Phase, Standing, Kept, OnConfirm, OnNeedkey, OnServer, Seeking, finds, outcome_of, template_of}
use Rattle.talks.specs.Lines.{end_line, start_line, start_template}
use Rattle.roles.specs.Templates.{shown_text}
use Rattle.agent_history.specs.Deeds.{Deed, OfFids, OfKeys, OfConnection, OfTalk, OfPrompts, OfLog, Raised, HandedOut, DropTaken, Taken, Halted, Versioned, Attached, Walked, Opened, Listed, Clunked, Edited, Hung, fid_of, held_by, holder_of, is_debug, keys_of, msize_of, names, OfReplies, Awaited, Settled, Answered}
use Rattle.key_lists.specs.CtlLines.{OnKeys, after_lines, line_over, lines_fault, read_line}
use Rattle.agent_history.specs.Replies.{Wait, is_unsettled, too_small, untaken, waits}
use Rattle.agent_history.specs.SideFiles.{askers, is_line_file, line_read, lines_in}
use Rattle.agent_history.specs.Conversations.{asking, conv_of, questions, standing_of, Speaker, speaker_of, then_took, told, stands}
use Rattle.agent_history.specs.Requests.{Call, body_to, call_of, is_rpc, least_msize, most_waits, tag_of}
use Rattle.agent_history.specs.Histories.{History, deeds, answer, is_reply}

-- ---- deeds

-- whether a deed is of the connection: it is about its fids, its lines of ctl or itself; or it is about conversations,
-- questions or replies, or a stop
abbrev pub is_of : ℕ → Deed → Bool
is_of conn (OfFids at deed) = at == conn
is_of conn (OfKeys at deed) = at == conn
is_of conn (OfConnection at deed) = at == conn
is_of conn deed = true

-- whether it is about conversations, questions or replies, or a stop
abbrev pub is_of_talks : Deed → Bool
is_of_talks (OfFids at deed) = false
is_of_talks (OfKeys at deed) = false
is_of_talks (OfConnection at deed) = false
is_of_talks deed = true

-- whether it is a line of ctl, and whether it is what a conversation met
abbrev pub is_edit : Deed → Bool
is_edit (OfKeys at deed) = true
is_edit deed = false

abbrev pub is_talk : Deed → Bool
is_talk (OfTalk conv call) = true
is_talk deed = false

-- some deeds of this kind came to those that were done before, and nothing else changed
abbrev pub Adds : (Deed → Bool) → List Deed → List Deed → Type 0
Adds kind before after = (more : List Deed) × (after ≡ more ++ before) × (list_all kind more ≡ true)

-- whether an event is a request
abbrev pub is_request : Event → Bool
is_request (Request at frame word) = true
is_request event = false

-- whether an event is a request, a take or a hang
abbrev pub has_connection : Event → Bool
has_connection (Request at frame word) = true
has_connection (Take at) = true
has_connection (Hang at) = true
has_connection event = false

-- whether an event is a request, a take or a hang of this connection
abbrev pub is_on : ℕ → Event → Bool
is_on conn (Request at frame word) = at == conn
is_on conn (Take at) = at == conn
is_on conn (Hang at) = at == conn
is_on conn event = false

-- ---- fids

-- whether a deed concerns what a fid of a connection names: a version was answered there, it was hung up, the agent
-- stopped, or the fid itself was attached, walked to, opened or given up
abbrev pub concerns : Deed → ℕ → ℕ → Bool
concerns (OfFids at (Versioned msize)) conn fid = at == conn
concerns (OfFids at (Attached f)) conn fid = at == conn && f == fid
concerns (OfFids at (Walked f node)) conn fid = at == conn && f == fid
concerns (OfFids at (Opened f mode)) conn fid = at == conn && f == fid
concerns (OfFids at (Clunked f)) conn fid = at == conn && f == fid
concerns (OfConnection at Hung) conn fid = at == conn
concerns Halted conn fid = true
concerns deed conn fid = false

-- none of these deeds concerns it
abbrev pub none_concerns : List Deed → ℕ → ℕ → Bool
none_concerns done conn fid = list_all (λ deed. not (concerns deed conn fid)) done

-- these numbers, no two of them equal, are the fids that a connection holds
pub record AreHeld (done : List Deed) (conn : ℕ) (fids : List ℕ) : Type 0 where
  pub distinct : IsDistinct nat_eq fids
  pub count : length fids ≡ held_by done conn
  pub held : (fid : ℕ) → is_some (fid_of done conn fid) ≡ list_any (nat_eq fid) fids

-- the fid of a connection has the file open
abbrev pub has_open : List Deed → Node → ℕ → ℕ → Bool
has_open done node conn fid = names node (fid_of done conn fid) && is_open (fid_of done conn fid)

-- ---- ctl

-- the text is the list of keys as it stood at one moment of the history, between two events of it or at an end
abbrev pub StoodOnce : History → List ℕ → Type 0
StoodOnce history text =
    (later earlier : History) × (history ≡ later ++ earlier) × (text ≡ list_text (keys_of (deeds earlier)))

-- whether a deed sets the text that a fid of a connection reads of ctl
abbrev pub sets_text : Deed → ℕ → ℕ → Bool
sets_text (OfFids at (Listed f)) conn fid = at == conn && f == fid
sets_text (OfFids at (Opened f mode)) conn fid = false
sets_text deed conn fid = concerns deed conn fid

-- none of these deeds sets it
abbrev pub none_sets_text : List Deed → ℕ → ℕ → Bool
none_sets_text done conn fid = list_all (λ deed. not (sets_text deed conn fid)) done

-- of the lines of a write, with some keys before it: those in front are carried out, and the one behind them is the
-- first that is refused, by the text
pub record IsFirstRefused (keys : KeyList) (lines front : List (List ℕ)) (line : List ℕ) (later : List (List ℕ))
    (text : List ℕ) : Type 0 where
  pub split : lines ≡ front ++ line ∷ later
  pub carried_out : lines_fault keys front ≡ None
  pub refused : line_over (after_lines keys front) line ≡ Err text

-- some line is the first that is refused, by the text
abbrev pub HasFirstRefused : KeyList → List (List ℕ) → List ℕ → Type 0
HasFirstRefused keys lines text = (front : List (List ℕ)) × (line : List ℕ) × (later : List (List ℕ))
    × IsFirstRefused keys lines front line later text

-- a request that reads the file of conversations
abbrev pub reads_rpc : List Deed → Call → TBody → Bool
reads_rpc done call (t.Read fid offset count) = is_rpc (node_of (fid_of done call.conn fid))
reads_rpc done call body = false

-- a request that reads the file of conversations or a file of lines
abbrev pub may_wait : List Deed → Call → TBody → Bool
may_wait done call (t.Read fid offset count) =
    is_rpc (node_of (fid_of done call.conn fid)) || is_line_file (node_of (fid_of done call.conn fid))
may_wait done call body = false

-- a request that may change something although its reply is an error: a remove gives the fid up, a write's lines before
-- the first refused one stand, and a read of a conversation may have gone on with it when its answer is too long
abbrev pub may_err_and_act : List Deed → Call → TBody → Bool
may_err_and_act done call (t.Remove fid) = true
may_err_and_act done call (t.Write fid offset content) = true
may_err_and_act done call body = reads_rpc done call body

-- a fid opened the file of conversations, or a question to a user was dealt with
abbrev pub has_conversed : List Deed → Bool
has_conversed [] = false
has_conversed (OfPrompts kind call ∷ before) = true
has_conversed (OfFids at (Opened f mode) ∷ before) = is_rpc (node_of (fid_of before at f)) || has_conversed before
has_conversed (deed ∷ before) = has_conversed before

-- ---- conversations

-- two are held by one fid of one connection
abbrev pub is_same_place : Speaker → Speaker → Bool
is_same_place a b = a.conn == b.conn && a.fid == b.fid

-- the shape of what is put out as a question of a conversation, if one is
abbrev pub asked_by : ℕ → StepAnswer → Option Shape → Option Shape
asked_by conv (Ask call at shape) earlier = if at == conv then Some shape else earlier
asked_by conv other earlier = earlier

-- that of its last question that was put out
abbrev pub last_asked : History → ℕ → Option Shape
last_asked [] conv = None
last_asked (event ∷ before) conv = asked_by conv (answer before event).0 (last_asked before conv)

-- it waits for the authentication server
abbrev pub is_on_server : Phase → Bool
is_on_server OnServer = true
is_on_server phase = false

abbrev pub asks_server : List Deed → ℕ → Bool
asks_server done conv = is_on_server (standing_of done conv).phase

-- each question that stands is of such a conversation
abbrev pub all_asked : List Deed → Bool
all_asked done = list_all (λ q. stands done q.conv && asks_server done q.conv) (questions done)

-- a question of it to the authentication server stands: it is there to be taken, or was taken
abbrev pub has_question : List Deed → ℕ → Bool
has_question done conv = list_any (λ q. q.conv == conv) (questions done)

-- it waits for a reply to a question of a kind
abbrev pub waits_on : PromptKind → Phase → Bool
waits_on k.Confirm (OnConfirm serial) = true
waits_on k.Confirm phase = false
waits_on k.Needkey OnNeedkey = true
waits_on k.Needkey phase = false

-- a conversation has a question of a kind to its user
abbrev pub asks_user : List Deed → PromptKind → ℕ → Bool
asks_user done kind conv = list_any (nat_eq conv) (askers done kind)

-- what a conversation waits for is asked for: the authentication server by a question that stands, and its user by one
-- that stands in confirm or in needkey. At a search it waits for nobody, and else for nothing
abbrev pub is_asked_for : List Deed → ℕ → Phase → Bool
is_asked_for done conv OnServer = has_question done conv
is_asked_for done conv (OnConfirm serial) = asks_user done k.Confirm conv
is_asked_for done conv OnNeedkey = asks_user done k.Needkey conv
is_asked_for done conv Seeking = true
is_asked_for done conv phase = false

-- no number stands twice
abbrev pub each_once : List ℕ → Bool
each_once [] = true
each_once (n ∷ more) = not (list_any (nat_eq n) more) && each_once more

-- each question of a kind to a user is of a conversation that stands and waits for the reply, and no two are of one
abbrev pub all_prompted : List Deed → PromptKind → Bool
all_prompted done kind = list_all (λ conv. stands done conv && waits_on kind (standing_of done conv).phase)
    (askers done kind) && each_once (askers done kind)

-- numbers that rise, all of them below a number
abbrev pub rise_below : ℕ → List ℕ → Bool
rise_below top [] = true
rise_below top (n ∷ more) = nat_lt n top && list_all (nat_lt n) more && rise_below top more

-- a question to a user is asked behind the search that came to it: in confirm by the public text of the key that was
-- found, in needkey by the template that was searched for, without its secrets
abbrev pub FollowsSearch : PromptKind → ℕ → List ℕ → List Deed → Type 0
FollowsSearch k.Confirm conv text before = (key : KeyEntry) × (earlier : List Deed)
    × (before ≡ OfTalk conv (calls.Sought (calls.AsksConsent key)) ∷ earlier) × (text ≡ public_text key.tuple)
FollowsSearch k.Needkey conv text before = (earlier : List Deed)
    × (before ≡ OfTalk conv (calls.Sought calls.AsksKey) ∷ earlier)
    × (text ≡ shown_text (template_of (standing_of before conv).begun))

abbrev pub AllFollow : List Deed → Type 0
AllFollow [] = Unit {0}
AllFollow (OfPrompts kind (side.Asked conv text) ∷ before) = FollowsSearch kind conv text before × AllFollow before
AllFollow (deed ∷ before) = AllFollow before

-- a line of the log tells of a conversation as it stands then: that it has started, where the further lines are
-- wanted, or how it ended
abbrev pub TellsOf : List ℕ → Standing → Bool → ℕ → Type 0
TellsOf line now debug conv = ((debug ≡ true) × (line ≡ start_line conv (start_template now.begun)))
    ⊎ (end_line conv (start_template now.begun) (outcome_of now) ≡ line ∷ [])

abbrev pub IsLogged : List ℕ → List Deed → Type 0
IsLogged line done = (conv : ℕ) × TellsOf line (standing_of done conv) (is_debug done) conv

abbrev pub AllLogged : List Deed → Type 0
AllLogged [] = Unit {0}
AllLogged (OfLog (side.Pushed line) ∷ before) = IsLogged line before × AllLogged before
AllLogged (deed ∷ before) = AllLogged before

-- each search found what is found among the keys of the moment at which it was made
abbrev pub AllSearched : List Deed → Type 0
AllSearched [] = Unit {0}
AllSearched (OfTalk conv (calls.Sought found) ∷ before) =
    (found ≡ finds (standing_of before conv) (asking before) (keys_of before)) × AllSearched before
AllSearched (deed ∷ before) = AllSearched before

-- ---- replies

-- the reply to a frame that comes on a connection with a word; none where it waits for it
unfoldable pub reply_to : List Deed → ℕ → List ℕ → List ℕ → Option RMsg
reply_to done conn frame word =
    option_map (λ body. record { tag = tag_of frame; body = body }) (body_to done (call_of conn frame word) frame)

-- whether a take of a connection is answered by a reply
abbrev pub gives : History → ℕ → Bool
gives history conn = is_reply (answer history (Take conn)).0

-- the replies that the takes of a connection gave, the oldest first: each that was answered by a reply gave the first
-- of those that were left then
abbrev pub given : History → ℕ → List RMsg
given [] conn = []
given (Take at ∷ before) conn =
    if at == conn && gives before conn then given before conn ++ take 1 (untaken (deeds before) conn)
    else given before conn
given (event ∷ before) conn = given before conn

-- the bytes that these takes put out, a frame each
abbrev pub put_out : History → ℕ → List (List ℕ)
put_out [] conn = []
put_out (Take at ∷ before) conn =
    if at == conn && gives before conn then put_out before conn ++ (answer before (Take conn)).1 ∷ []
    else put_out before conn
put_out (event ∷ before) conn = put_out before conn

-- how long a reply may be: as the largest message agreed, and where none is agreed as the smallest that could be
abbrev pub longest_reply : Option ℕ → ℕ
longest_reply None = least_msize
longest_reply (Some msize) = msize

-- how many bytes a read may give: as many as a message of the size agreed holds
abbrev pub most_read : Option ℕ → ℕ
most_read None = 0
most_read (Some msize) = msize - 24

-- a fid has a file open whose reads may wait: rpc, or a file of lines
abbrev pub may_wait_on : Option FidState → Bool
may_wait_on state = is_open state && (is_rpc (node_of state) || is_line_file (node_of state))

-- the reads of a connection that wait are so: each waits for its reply and for no more bytes than may be read, and
-- its fid has such a file open; no two have the same tag; of a fid that has rpc open one waits at most; and they are
-- at most so many
pub record AreWaiting (done : List Deed) (conn : ℕ) (reads : List Wait) : Type 0 where
  pub unsettled : list_all is_unsettled reads ≡ true
  pub fitting : All (λ wait. wait.count ≤ most_read (msize_of done conn)) reads
  pub opened : list_all (λ wait. may_wait_on (fid_of done conn wait.fid)) reads ≡ true
  pub tags : IsDistinct nat_eq (map (λ wait. wait.tag) reads)
  pub alone : (fid : ℕ) → has_open done Rpc conn fid ≡ true → length (filter (λ wait. wait.fid == fid) reads) ≤ 1
  pub few : length reads ≤ most_waits

-- a read as it was when it began to wait
abbrev pub as_it_came : Wait → Wait
as_it_came wait = record { tag = wait.tag; fid = wait.fid; count = wait.count; reply = None }

-- a read waits behind those that waited before, some of which may be settled now
abbrev pub IsBehind : List Wait → List Wait → Wait → Type 0
IsBehind before after wait =
    (others : List Wait) × (map as_it_came others ≡ map as_it_came before) × (after ≡ others ++ wait ∷ [])

-- a read of rpc was told the answer of the conversation that its fid has open, or that it doesn't hold it: where it
-- does, the deed before is that this answer was read
pub record IsAnswerTold (before : List Deed) (conn : ℕ) (wait : Wait) (body : RBody) : Type 0 where
  pub conv : ℕ
  pub answer : RpcAnswer
  pub earlier : List Deed
  pub took : before ≡ then_took conv wait.count answer earlier
  pub speaks : speaker_of earlier conv ≡ Some (record { conv = conv; conn = conn; fid = wait.fid })
  pub kept : (standing_of earlier conv).phase ≡ Kept answer
  pub says : body ≡ told wait.count answer

-- a read of a file was told its first line: the deed before is that this line was read
pub record IsLineTold (node : Node) (before : List Deed) (conn : ℕ) (wait : Wait) (body : RBody) : Type 0 where
  pub line : List ℕ
  pub earlier : List Deed
  pub read : before ≡ line_read node earlier
  pub holds : holder_of earlier node ≡ Some (conn, wait.fid)
  pub first : found wait.count (lines_in earlier node) ≡ First line
  pub says : body ≡ r.Read line

-- it was told that it doesn't hold this line
pub record IsOverTold (node : Node) (before : List Deed) (conn : ℕ) (wait : Wait) (body : RBody) : Type 0 where
  pub holds : holder_of before node ≡ Some (conn, wait.fid)
  pub over : found wait.count (lines_in before node) ≡ TooLong
  pub says : body ≡ too_small

-- what a read is told, by the file that its fid has open
abbrev pub IsToldBy : Node → List Deed → ℕ → Wait → RBody → Type 0
IsToldBy Rpc before conn wait body = IsAnswerTold before conn wait body
IsToldBy node before conn wait body = IsLineTold node before conn wait body ⊎ IsOverTold node before conn wait body

abbrev pub IsToldOf : List Deed → ℕ → Wait → RBody → Type 0
IsToldOf before conn wait body = IsToldBy (node_of (fid_of before conn wait.fid)) before conn wait body

-- the reply is what the read under the tag is told: it waited until then, and is told no more bytes than it may hold
abbrev pub IsTold : List Deed → ℕ → ℕ → RBody → Type 0
IsTold before conn tag body = (wait : Wait) × (find (λ w. w.tag == tag) (waits before conn) ≡ Some wait)
    × (is_unsettled wait ≡ true) × IsToldOf before conn wait body

-- each read that was settled was told so
abbrev pub AllTold : List Deed → Type 0
AllTold [] = Unit {0}
AllTold (OfReplies conn (Settled tag body) ∷ before) = IsTold before conn tag body × AllTold before
AllTold (deed ∷ before) = AllTold before

-- a read waits under the tag whose fid has a conversation open, which only a fid that has rpc open has
abbrev pub waits_on_rpc : List Deed → ℕ → ℕ → Bool
waits_on_rpc done conn tag =
    list_any (λ wait. wait.tag == tag && is_some (conv_of done conn wait.fid)) (waits done conn)

-- a read that was told something: its connection, its tag, and what it was told
pub record ToldRead : Type 0 where
  pub conn : ℕ
  pub tag : ℕ
  pub body : RBody

-- what the reads of files of lines were told that waited, the newest first
abbrev pub lines_told : List Deed → List ToldRead
lines_told [] = []
lines_told (OfReplies conn (Settled tag body) ∷ before) =
    if waits_on_rpc before conn tag then lines_told before
    else record { conn = conn; tag = tag; body = body } ∷ lines_told before
lines_told (deed ∷ before) = lines_told before

-- whether a reply gives what was read
abbrev pub gives_content : RBody → Bool
gives_content (r.Read content) = true
gives_content body = false

-- ---- secrets

-- a line with the secrets of its key hidden
abbrev pub hidden_edit : KeyEdit → KeyEdit
hidden_edit (Add key) = Add (map hidden key)
hidden_edit (Delete template) = Delete template

-- a deed with the secrets of its key hidden
abbrev pub hidden_deed : Deed → Deed
hidden_deed (OfKeys conn (Edited edit)) = OfKeys conn (Edited (hidden_edit edit))
hidden_deed deed = deed

-- an edit in public
abbrev pub public_edit : KeyEdit → KeyEdit
public_edit (Add key) = Add (map hidden key)
public_edit (Delete template) = Delete (map hidden template)

-- what deeds are in public: the secrets of keys are hidden, and what reads were told that waited; what conversations
-- met, what they asked the authentication server, and the replies to requests aren't there
abbrev pub in_public : List Deed → List Deed
in_public [] = []
in_public (OfKeys conn (Edited edit) ∷ before) = OfKeys conn (Edited (public_edit edit)) ∷ in_public before
in_public (OfReplies conn (Settled tag body) ∷ before) = OfReplies conn (Settled tag r.Flush) ∷ in_public before
in_public (OfReplies conn (Answered tag body) ∷ before) = in_public before
in_public (OfReplies conn Taken ∷ before) = in_public before
in_public (OfTalk conv call ∷ before) = in_public before
in_public (Raised conv ∷ before) = in_public before
in_public (HandedOut ∷ before) = in_public before
in_public (DropTaken ∷ before) = in_public before
in_public (deed ∷ before) = deed ∷ in_public before

-- the deeds, but for how many bytes reads of rpc may hold that wait
abbrev pub unsized : List Deed → List Deed
unsized [] = []
unsized (OfReplies conn (Awaited tag fid count) ∷ before) =
    OfReplies conn (Awaited tag fid (if is_rpc (node_of (fid_of before conn fid)) then 0 else count)) ∷ unsized before
unsized (deed ∷ before) = deed ∷ unsized before

-- a line doesn't delete by the value of a secret
abbrev pub is_open_edit : KeyEdit → Bool
is_open_edit (Add key) = true
is_open_edit (Delete template) = not (list_any tells_secret template)

abbrev pub is_open_deed : Deed → Bool
is_open_deed (OfKeys conn (Edited edit)) = is_open_edit edit
is_open_deed deed = true

-- none of these deeds deleted keys by the value of a secret
abbrev pub all_open : List Deed → Bool
all_open done = list_all is_open_deed done

-- the same deeds in the same places, but for the values of the secrets of the keys added
pub record SameButSecrets (a b : List Deed) : Type 0 where
  pub alike : map hidden_deed a ≡ map hidden_deed b
  pub open_deletes : all_open a ≡ true

-- two lines of ctl add keys that are the same but for their secrets, and to some keys they are added or refused alike
pub record AddAlike (keys : KeyList) (one other : List ℕ) : Type 0 where
  pub key : List Attr
  pub same : List Attr
  pub one_adds : read_line one ≡ Ok (OnKeys (Add key))
  pub other_adds : read_line other ≡ Ok (OnKeys (Add same))
  pub alike : map hidden key ≡ map hidden same
  pub alike_refused : add_fault key keys ≡ add_fault same keys
