-- How a request is answered: the tests that refuse it, in their order, each with its text; what is asked at the port
-- where none of them holds; and, by the port's answers, what it does and what is replied. After section 5 of the Plan
-- 9 manual and auth(2); that these are the tests, their order and their texts are this project's.
use Rattle.std.specs.Prelude.{◌≡◌, ℕ, ◌+◌, List, [], ◌∷◌, ◌++◌, length, take, drop, map, reverse, Bool, true, false, not, ◌&&◌, ◌||◌, ◌==◌, nat_lt, nat_le, bit_and, min, Option, Some, None, is_some, is_none, Result, Ok, Err, codes, if◌then◌else◌}
use Rattle.std.specs.Str.{bytes_eq}
use Rattle.wire_base.specs.Rules.{Rule, first_told}
use Rattle.wire_base.specs.Texts.{is_text}
use Rattle.wire_base.specs.declared.name.AuthInfo.{AuthInfo}
use Rattle.nine.specs.declared.message.TBody.{TBody}
use Rattle.nine.specs.declared.message.TBody.TheVariants as t
use Rattle.nine.specs.declared.message.RBody.{RBody}
use Rattle.nine.specs.declared.message.RBody.TheVariants as r
use Rattle.nine.specs.Decoding.{request_of}
use Rattle.sealing.specs.InfoReading.{info_reading}
use Rattle.agent_history.specs.Requests.{Test, agreed, comes_first, effective, is_known, is_over, least_msize, most_msize, nofid}
use Rattle.doors.specs.declared.port.PortOpen.{PortOpen}
use Rattle.doors.specs.declared.port.PortOpen.TheVariants.{Open, Refused}
use Rattle.doors.specs.declared.fid.FileFid.{FileFid}
use Rattle.doors.specs.declared.fid.AuthFid.{AuthFid}
use Rattle.doors.specs.declared.fid.Names.{Names}
use Rattle.doors.specs.declared.fid.Names.TheVariants.{File, Conversation}
use Rattle.doors.specs.declared.fid.Held.{Held}
use Rattle.doors.specs.declared.file.DoorFile.{DoorFile}
use Rattle.doors.specs.declared.file.DoorFile.TheVariants.{Root, Who}
use Rattle.doors.specs.Calls.{PortCall, Opened, Asked, Closed, Heard, Well, Ended, Else, Lost, heard, info_request, is_well, most_request, read_text, start_text, write_text}
use Rattle.doors.specs.Tree.{auth_qid, content_of, is_directory, lead_to, qid_of, record_of, step, visited}
use Rattle.doors.specs.Fids.{at_rest, begun, conversation_in, conversations, is_full, is_held, keeping, named, opened, read_to}
use Rattle.doors.specs.Deeds.{Deed, Versioned, Came, Became, Clunked, held_in, msize_of}

-- ---- the tests, by type

-- a fid that is held first, then the tests of what it names
abbrev pub fid_first : Option Names → (Names → List Test) → Option (List ℕ)
fid_first None tests = Some (codes "unknown fid")
fid_first (Some names) tests = first_told (tests names)

abbrev pub denied : Test
denied = (true, codes "permission denied")

-- what a conversation serves for
abbrev pub authenticates : Option Names → Option AuthFid
authenticates None = None
authenticates (Some names) = conversation_in names

-- a conversation is one for this user and this tree
abbrev pub is_for : List ℕ → List ℕ → Option AuthFid → Bool
is_for uname aname None = false
is_for uname aname (Some a) = bytes_eq a.uname uname && bytes_eq a.aname aname

-- the first name isn't there
abbrev pub lacks_first : DoorFile → List (List ℕ) → Bool
lacks_first file [] = false
lacks_first file (name ∷ names) = is_none (step file name)

abbrev pub has_names : List (List ℕ) → Bool
has_names [] = false
has_names (name ∷ names) = true

-- of a walk to a fid that is held or not, while no other may be held or one may
abbrev pub walk_tests : Bool → Bool → Bool → List (List ℕ) → Names → List Test
walk_tests same held full names (Conversation a) = denied ∷ []
walk_tests same held full names (File f) =
    (f.is_open, codes "already open")
    ∷ (held && not same, codes "fid in use")
    ∷ (not held && full, codes "too many fids")
    ∷ (has_names names && not (is_directory f.file), codes "not a directory")
    ∷ (lacks_first f.file names, codes "file not found")
    ∷ []

-- of an open: a bit that no mode of open(5) has; and each file is opened for reading alone
abbrev pub open_tests : ℕ → Names → List Test
open_tests mode (Conversation a) = denied ∷ []
open_tests mode (File f) =
    (f.is_open, codes "already open")
    ∷ (not (bit_and mode 0xac == 0), codes "bad open mode")
    ∷ (not (mode == 0), codes "permission denied")
    ∷ []

-- of a read: that of a directory begins where the latest of the fid ended, or anew
abbrev pub read_tests : ℕ → Names → List Test
read_tests offset (Conversation a) = []
read_tests offset (File f) =
    (not f.is_open, codes "not open")
    ∷ (is_directory f.file && (not (offset == 0) && not (offset == f.next)), codes "bad directory offset")
    ∷ []

abbrev pub write_tests : List ℕ → Names → List Test
write_tests content (Conversation a) =
    (not (nat_le (length (write_text content)) most_request), codes "rpc too long") ∷ []
write_tests content (File f) = (not f.is_open, codes "not open") ∷ (true, codes "not open for writing") ∷ []

abbrev pub stat_tests : Names → List Test
stat_tests (Conversation a) = denied ∷ []
stat_tests (File f) = []

-- what refuses a request before the port is asked, if anything does
unfoldable pub refusal : List Held → TBody → Option (List ℕ)
refusal all (t.Version msize version) = first_told ((nat_lt msize least_msize, codes "msize too small") ∷ [])
refusal all (t.Auth afid uname aname) = first_told (
    (afid == nofid, codes "bad afid")
    ∷ (is_held afid all, codes "fid in use")
    ∷ (is_full all, codes "too many fids")
    ∷ [])
refusal all (t.Attach fid afid uname aname) = first_told (
    (is_held fid all, codes "fid in use")
    ∷ (is_full all, codes "too many fids")
    ∷ (is_none (authenticates (named afid all)), codes "authentication required")
    ∷ (not (is_for uname aname (authenticates (named afid all))), codes "wrong attach")
    ∷ [])
refusal all (t.Flush oldtag) = None
refusal all (t.Walk fid newfid wname) =
    fid_first (named fid all) (walk_tests (fid == newfid) (is_held newfid all) (is_full all) wname)
refusal all (t.Open fid mode) = fid_first (named fid all) (open_tests mode)
refusal all (t.Create fid name perm mode) = fid_first (named fid all) (λ names. denied ∷ [])
refusal all (t.Read fid offset count) = fid_first (named fid all) (read_tests offset)
refusal all (t.Write fid offset content) = fid_first (named fid all) (write_tests content)
refusal all (t.Clunk fid) = fid_first (named fid all) (λ names. [])
refusal all (t.Remove fid) = fid_first (named fid all) (λ names. [])
refusal all (t.Stat fid) = fid_first (named fid all) stat_tests
refusal all (t.Wstat fid stat) = fid_first (named fid all) (λ names. denied ∷ [])

-- ---- what is asked at the port for a request that no test refuses: all calls for it, the newest first

-- one request to a conversation
abbrev pub IsAsked : ℕ → List ℕ → List PortCall → Type 0
IsAsked conv request (Asked c asked came answer ∷ []) = (c ≡ conv) × (asked ≡ request)
IsAsked conv request calls = ⊥

-- a conversation is opened, and started; where that isn't answered well, it is closed
abbrev pub IsLogin : List PortCall → Type 0
IsLogin (Opened Refused ∷ []) = Unit {0}
IsLogin (Asked c asked came answer ∷ Opened (Open conv) ∷ []) =
    (c ≡ conv) × (asked ≡ start_text) × (is_well (heard came answer) ≡ true)
IsLogin (Closed d ∷ Asked c asked came answer ∷ Opened (Open conv) ∷ []) =
    (d ≡ conv) × (c ≡ conv) × (asked ≡ start_text) × (is_well (heard came answer) ≡ false)
IsLogin calls = ⊥

abbrev pub IsNone : List PortCall → Type 0
IsNone calls = calls ≡ []

-- a fid's conversation is asked, where it names one
abbrev pub OfNames : (AuthFid → List PortCall → Type 0) → Option Names → List PortCall → Type 0
OfNames asks None calls = IsNone calls
OfNames asks (Some (File f)) calls = IsNone calls
OfNames asks (Some (Conversation a)) calls = asks a calls

-- a read asks where nothing is kept of an earlier answer
abbrev pub FirstAsks : List ℕ → ℕ → List PortCall → Type 0
FirstAsks [] conv calls = IsAsked conv read_text calls
FirstAsks (byte ∷ bytes) conv calls = IsNone calls

abbrev pub ReadAsks : AuthFid → List PortCall → Type 0
ReadAsks a calls = FirstAsks a.kept a.conv calls

-- all conversations are closed
abbrev pub closings : List ℕ → List PortCall
closings convs = map Closed (reverse convs)

abbrev pub AsksSo : List Held → TBody → List PortCall → Type 0
AsksSo all (t.Version msize version) calls = calls ≡ closings (conversations all)
AsksSo all (t.Auth afid uname aname) calls = IsLogin calls
AsksSo all (t.Attach fid afid uname aname) calls = OfNames (λ a. IsAsked a.conv info_request) (named afid all) calls
AsksSo all (t.Read fid offset count) calls = OfNames ReadAsks (named fid all) calls
AsksSo all (t.Write fid offset content) calls = OfNames (λ a. IsAsked a.conv (write_text content)) (named fid all) calls
AsksSo all (t.Clunk fid) calls = OfNames (λ a calls. calls ≡ closings (a.conv ∷ [])) (named fid all) calls
AsksSo all (t.Remove fid) calls = OfNames (λ a calls. calls ≡ closings (a.conv ∷ [])) (named fid all) calls
AsksSo all body calls = IsNone calls

-- ---- what the port answered

-- what the one request came to
abbrev pub heard_in : List PortCall → Heard
heard_in (Asked c asked came answer ∷ calls) = heard came answer
heard_in calls = Lost

-- the conversation that was begun, if it was
abbrev pub begun_by : Bool → ℕ → Option ℕ
begun_by true conv = Some conv
begun_by false conv = None

abbrev pub begun_in : List PortCall → Option ℕ
begun_in (Asked c asked came answer ∷ calls) = begun_by (is_well (heard came answer)) c
begun_in calls = None

-- an authinfo says that this user was accepted
abbrev pub accepts : List ℕ → Result AuthInfo ℕ → Bool
accepts uname (Ok info) = bytes_eq info.suid uname
accepts uname (Err at) = false

abbrev pub vouches : List ℕ → Heard → Bool
vouches uname (Well bytes) = accepts uname (info_reading bytes)
vouches uname other = false

-- the bytes that a read has for its reply: those that are kept, else those of the answer
abbrev pub bytes_in : Heard → Option (List ℕ)
bytes_in (Well bytes) = Some bytes
bytes_in Ended = Some []
bytes_in other = None

abbrev pub to_read : List ℕ → List PortCall → Option (List ℕ)
to_read [] calls = bytes_in (heard_in calls)
to_read (byte ∷ bytes) calls = Some (byte ∷ bytes)

-- ---- what a request does where nothing refuses it

-- the number of bytes that a reply may hold
abbrev pub room : List Deed → ℕ → ℕ
room done count = effective count (msize_of done)

-- a fid names a file for the user of another, where a walk comes to one
abbrev pub walking : ℕ → ℕ → FileFid → Option DoorFile → List Deed → List Deed
walking fid newfid f None done = done
walking fid newfid f (Some file) done =
    if is_held newfid (held_in done) then Became newfid (at_rest f.uname file) ∷ done
    else Came newfid (at_rest f.uname file) ∷ done

abbrev pub walked : ℕ → ℕ → List (List ℕ) → Option Names → List Deed → List Deed
walked fid newfid wname (Some (File f)) done = walking fid newfid f (lead_to f.file wname) done
walked fid newfid wname names done = done

abbrev pub opening : ℕ → Option Names → List Deed → List Deed
opening fid (Some (File f)) done = Became fid (opened f) ∷ done
opening fid names done = done

-- what of the bytes a reply had no room for is kept
abbrev pub kept_of : ℕ → AuthFid → ℕ → Option (List ℕ) → List Deed → List Deed
kept_of fid a count None done = done
kept_of fid a count (Some bytes) done = Became fid (keeping (drop count bytes) a) ∷ done

abbrev pub reading : ℕ → ℕ → ℕ → Option Names → List PortCall → List Deed → List Deed
reading fid offset count None calls done = done
reading fid offset count (Some (File f)) calls done =
    if is_directory f.file then Became fid (read_to (offset + length (content_of f.uname offset count f.file)) f) ∷ done
    else done
reading fid offset count (Some (Conversation a)) calls done = kept_of fid a count (to_read a.kept calls) done

abbrev pub logging_in : ℕ → List ℕ → List ℕ → Option ℕ → List Deed → List Deed
logging_in afid uname aname None done = done
logging_in afid uname aname (Some conv) done = Came afid (begun conv uname aname) ∷ done

unfoldable pub after : List Deed → TBody → List PortCall → List Deed
after done (t.Version msize version) calls = Versioned (agreed msize version) ∷ done
after done (t.Auth afid uname aname) calls = logging_in afid uname aname (begun_in calls) done
after done (t.Attach fid afid uname aname) calls =
    if vouches uname (heard_in calls) then Came fid (at_rest uname Root) ∷ done
    else done
after done (t.Walk fid newfid wname) calls = walked fid newfid wname (named fid (held_in done)) done
after done (t.Open fid mode) calls = opening fid (named fid (held_in done)) done
after done (t.Read fid offset count) calls = reading fid offset (room done count) (named fid (held_in done)) calls done
after done (t.Write fid offset content) calls = done
after done (t.Clunk fid) calls = Clunked fid ∷ done
after done (t.Remove fid) calls = Clunked fid ∷ done
after done body calls = done

-- ---- what is replied where no test refuses it

abbrev pub unavailable : RBody
unavailable = r.Error (codes "authentication unavailable")

-- an answer that is neither `ok` nor `done` is told as it is; one that no text of 9P is can't be told
abbrev pub told : List ℕ → RBody
told answer = if is_text answer && nat_lt (length answer) 65536 then r.Error answer else unavailable

abbrev pub login_reply : Option ℕ → RBody
login_reply None = unavailable
login_reply (Some conv) = r.Auth auth_qid

abbrev pub walk_reply : List (List ℕ) → Option Names → RBody
walk_reply wname (Some (File f)) = r.Walk (map qid_of (visited f.file wname))
walk_reply wname names = r.Walk []

abbrev pub file_of : Option Names → DoorFile
file_of (Some (File f)) = f.file
file_of names = Root

-- of a read that isn't told its bytes
abbrev pub not_read : Heard → RBody
not_read (Else answer) = told answer
not_read other = unavailable

abbrev pub bytes_reply : ℕ → Option (List ℕ) → Heard → RBody
bytes_reply count (Some bytes) answer = r.Read (take count bytes)
bytes_reply count None answer = not_read answer

abbrev pub read_reply : ℕ → ℕ → Option Names → List PortCall → RBody
read_reply offset count None calls = unavailable
read_reply offset count (Some (File f)) calls = r.Read (content_of f.uname offset count f.file)
read_reply offset count (Some (Conversation a)) calls = bytes_reply count (to_read a.kept calls) (heard_in calls)

-- of a write: an answer that is neither `ok` nor missing is told as it is
abbrev pub written : List ℕ → List ℕ → Heard → RBody
written content answer (Well bytes) = r.Write (length content)
written content answer Ended = told answer
written content answer (Else other) = told answer
written content answer Lost = unavailable

abbrev pub write_reply : List ℕ → List PortCall → RBody
write_reply content (Asked c asked came answer ∷ calls) = written content answer (heard came answer)
write_reply content calls = unavailable

unfoldable pub reply_of : List Deed → TBody → List PortCall → RBody
reply_of done (t.Version msize version) calls =
    r.Version (min msize most_msize) (if is_known version then codes "9P2000" else codes "unknown")
reply_of done (t.Auth afid uname aname) calls = login_reply (begun_in calls)
reply_of done (t.Attach fid afid uname aname) calls =
    if vouches uname (heard_in calls) then r.Attach (qid_of Root)
    else r.Error (codes "not authenticated")
reply_of done (t.Flush oldtag) calls = r.Flush
reply_of done (t.Walk fid newfid wname) calls = walk_reply wname (named fid (held_in done))
reply_of done (t.Open fid mode) calls = r.Open (qid_of (file_of (named fid (held_in done)))) 0
reply_of done (t.Create fid name perm mode) calls = r.Error (codes "permission denied")
reply_of done (t.Read fid offset count) calls = read_reply offset (room done count) (named fid (held_in done)) calls
reply_of done (t.Write fid offset content) calls = write_reply content calls
reply_of done (t.Clunk fid) calls = r.Clunk
reply_of done (t.Remove fid) calls = r.Error (codes "permission denied")
reply_of done (t.Stat fid) calls = r.Stat (record_of (file_of (named fid (held_in done))))
reply_of done (t.Wstat fid stat) calls = r.Error (codes "permission denied")

-- ---- frames

-- the request, where no test refuses it before the port is asked, or the text of the first one that does
abbrev pub granted_body : List Deed → TBody → Result TBody (List ℕ)
granted_body done body =
    if not (comes_first body) && is_none (msize_of done) then Err (codes "no version")
    else elim (refusal (held_in done) body) [ Some text ↦ Err text | None ↦ Ok body ]

unfoldable pub granted : List Deed → List ℕ → Result TBody (List ℕ)
granted done frame =
    if is_over (msize_of done) frame then Err (codes "message over msize")
    else elim (request_of frame) [ None ↦ Err (codes "bad message") | Some m ↦ granted_body done m.body ]

-- what is asked at the port for a frame
abbrev pub AsksFor : List Deed → Result TBody (List ℕ) → List PortCall → Type 0
AsksFor done (Err text) calls = IsNone calls
AsksFor done (Ok body) calls = AsksSo (held_in done) body calls

abbrev pub after_granted : List Deed → Result TBody (List ℕ) → List PortCall → List Deed
after_granted done (Err text) calls = done
after_granted done (Ok body) calls = after done body calls

abbrev pub reply_for : List Deed → Result TBody (List ℕ) → List PortCall → RBody
reply_for done (Err text) calls = r.Error text
reply_for done (Ok body) calls = reply_of done body calls
