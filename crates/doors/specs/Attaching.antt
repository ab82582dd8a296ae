-- Which attaches are granted: those for which the conversation of their afid vouches.
use Rattle.std.specs.Prelude.{◌≡◌, ℕ, List, true, Some, Result, Ok, Err}
use Rattle.nine.specs.declared.qid.Qid.{Qid}
use Rattle.nine.specs.declared.message.TBody.{TBody}
use Rattle.nine.specs.declared.message.TBody.TheVariants as t
use Rattle.nine.specs.declared.message.RBody.TheVariants as r
use Rattle.wire_base.specs.declared.name.AuthInfo.{AuthInfo}
use Rattle.sealing.specs.InfoReading.{info_reading}
use Rattle.doors.specs.declared.fid.AuthFid.{AuthFid}
use Rattle.doors.specs.declared.fid.Names.TheVariants.{Conversation}
use Rattle.doors.specs.declared.fid.Held.{Held}
use Rattle.doors.specs.Calls.{PortCall, Heard, Well, info_request}
use Rattle.doors.specs.Fids.{named}
use Rattle.doors.specs.Deeds.{Deed, held_in}
use Rattle.doors.specs.Requests.{AsksFor, IsAsked, granted_body, heard_in, reply_for}

-- an answer tells that this user was accepted: it is `ok` with an authinfo whose user he is
pub record Accepted (uname : List ℕ) (heard : Heard) : Type 0 where
  pub bytes : List ℕ
  pub info : AuthInfo
  pub well : heard ≡ Well bytes
  pub told : info_reading bytes ≡ Ok info
  pub user : info.suid ≡ uname

-- the afid is held and names a conversation that was begun for this user and this tree; that was asked once, and
-- answered that this user was accepted
pub record Vouched (all : List Held) (afid : ℕ) (uname aname : List ℕ) (calls : List PortCall) : Type 0 where
  pub conversation : AuthFid
  pub held : named afid all ≡ Some (Conversation conversation)
  pub user : conversation.uname ≡ uname
  pub tree : conversation.aname ≡ aname
  pub asked : IsAsked conversation.conv info_request calls
  pub accepted : Accepted uname (heard_in calls)

abbrev pub AttachesAreVouchedFor : Type 0
AttachesAreVouchedFor = (done : List Deed) (fid afid : ℕ) (uname aname : List ℕ) (calls : List PortCall) (qid : Qid)
    → AsksFor done (granted_body done (t.Attach fid afid uname aname)) calls
    → reply_for done (granted_body done (t.Attach fid afid uname aname)) calls ≡ r.Attach qid
    → Vouched (held_in done) afid uname aname calls
