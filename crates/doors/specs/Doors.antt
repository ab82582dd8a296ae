-- What a door keeps of its history, and what a frame leaves.
use Rattle.std.specs.Prelude.{◌≡◌, ℕ, List, [], ◌∷◌, ◌++◌, Bool, false, Option, Some, None, Result, Ok, Err}
use Rattle.nine.specs.declared.message.TBody.{TBody}
use Rattle.nine.specs.declared.message.RBody.{RBody}
use Rattle.nine.specs.Messages.{r_frame}
use Rattle.agent_history.specs.Requests.{tag_of}
use Rattle.doors.specs.Calls.{PortCall}
use Rattle.doors.specs.declared.fid.Names.{Names}
use Rattle.doors.specs.Fids.{named}
use Rattle.doors.specs.Deeds.{Deed, Clunked, held_in, msize_of}
use Rattle.doors.specs.Requests.{AsksFor, AsksSo, OfNames, closings, after, after_granted, granted, reply_for, reply_of}
use Rattle.doors.specs.Histories.{History, IsTurn, Turn, deeds, reply_to}
use Rattle.doors.specs.declared.connection.Connection.{Connection}
use Rattle.doors.specs.declared.door.Door.{Door}
use Rattle.doors.specs.declared.refusal.Refusal.{Refusal}
use Rattle.doors.specs.declared.refusal.Refused.{Refused}
use Rattle.doors.specs.declared.refusal.Refused.TheVariants as e
use Rattle.doors.specs.Refusals.{refusal_text}

-- the largest message and the fids are what the deeds made of them
pub record Keeps (done : List Deed) (c : Connection) : Type 0 where
  pub msize : c.msize ≡ msize_of done
  pub held : c.fids ≡ held_in done

-- a reply under a tag
abbrev pub reply_under : ℕ → RBody → List ℕ
reply_under tag body = r_frame (record { tag = tag; body = body })

-- a request that nothing refuses was carried out, the port having answered so
pub record Served (done : List Deed) (tag : ℕ) (body : TBody) (calls : List PortCall) (c : Connection)
    (old out : List ℕ) : Type 0 where
  pub keeps : Keeps (after done body calls) c
  pub said : out ≡ old ++ reply_under tag (reply_of done body calls)

-- the same, and the port was asked what the definitions say
pub record Carried {P : Type 0} (stands : List PortCall → P → Type 0) (done : List Deed) (past : List PortCall)
    (tag : ℕ) (body : TBody) (c : Connection) (port : P) (old out : List ℕ) : Type 0 where
  pub calls : List PortCall
  pub asks : AsksSo (held_in done) body calls
  pub told : stands (calls ++ past) port
  pub served : Served done tag body calls c old out

-- the conversation that a fid names was closed
pub record Closes {P : Type 0} (stands : List PortCall → P → Type 0) (past : List PortCall) (names : Option Names)
    (port : P) : Type 0 where
  pub calls : List PortCall
  pub asks : OfNames (λ a calls. calls ≡ closings (a.conv ∷ [])) names calls
  pub told : stands (calls ++ past) port

-- a fid was given up, and its conversation closed
pub record GivesUp {P : Type 0} (stands : List PortCall → P → Type 0) (done : List Deed) (past : List PortCall)
    (fid : ℕ) (c : Connection) (port : P) : Type 0 where
  pub calls : List PortCall
  pub asks : OfNames (λ a calls. calls ≡ closings (a.conv ∷ [])) (named fid (held_in done)) calls
  pub told : stands (calls ++ past) port
  pub keeps : Keeps (Clunked fid ∷ done) c

-- a frame was answered
pub record Answered {P : Type 0} (stands : List PortCall → P → Type 0) (done : List Deed) (past : List PortCall)
    (frame : List ℕ) (c : Connection) (port : P) (old out : List ℕ) : Type 0 where
  pub calls : List PortCall
  pub asks : AsksFor done (granted done frame) calls
  pub told : stands (calls ++ past) port
  pub keeps : Keeps (after_granted done (granted done frame) calls) c
  pub said : out ≡ old ++ reply_under (tag_of frame) (reply_for done (granted done frame) calls)

-- a frame is refused by this text; of one that wasn't looked at for want of memory nothing is said
abbrev pub IsRefusedSo : Result TBody (List ℕ) → Refused → Type 0
IsRefusedSo request (e.For why) = request ≡ Err (refusal_text why)
IsRefusedSo request e.NoMemory = Unit {0}

-- a request, or why it is refused
abbrev pub by_refusal : TBody → Option Refusal → Result TBody (List ℕ)
by_refusal body None = Ok body
by_refusal body (Some why) = Err (refusal_text why)

abbrev pub has_failed : Door → Bool
has_failed door = door.has_failed

-- memory never ran out, and it keeps what its history made of it
pub record StandsFor (history : History) (door : Door) : Type 0 where
  pub works : has_failed door ≡ false
  pub keeps : Keeps (deeds history) door.connection

-- A frame was answered: the port was asked what the definitions say, the reply is theirs, and the door stands for
-- the history with this turn.
pub record Stepped {P : Type 0} (stands : List PortCall → P → Type 0) (before : History) (past : List PortCall)
    (frame : List ℕ) (door : Door) (port : P) (old out : List ℕ) : Type 0 where
  pub turn : Turn
  pub frame_is : turn.frame ≡ frame
  pub asks : IsTurn before turn
  pub stands_for : StandsFor (turn ∷ before) door
  pub told : stands (turn.calls ++ past) port
  pub said : out ≡ old ++ reply_to before turn
