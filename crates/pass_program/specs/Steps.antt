-- Of the code alone: what its parts tell each other.
use Rattle.std.specs.Prelude.{◌≡◌, ℕ, ◌+◌, ◌<◌, ◌==◌, List, ◌++◌, false, codes, length, slice_index, Option, None, Some, Ok, Err, if◌then◌else◌}
use Rattle.std.specs.Io.KnownBytes.{Consumes, IsAtEnd}
use Rattle.wire_base.specs.Kinds.{password_request}
use Rattle.wire_streams.specs.Streams.{Gains}
use Rattle.wire_streams.specs.Whole.{GainsFront}
use Rattle.sealing.specs.Request.{request_of}
use Rattle.sealing.specs.declared.fault.FieldFault.{FieldFault}
use Rattle.sealing.specs.declared.request.TicketReq.{TicketReq}
use Rattle.auth_tables.specs.Keys.{KeyLine}
use Rattle.auth_server.specs.Answers.{refusal}
use Rattle.auth_server.specs.Sessions.{DrawsAll}
use Rattle.auth_program.specs.declared.status.Status.{Status}
use Rattle.auth_program.specs.declared.status.Status.TheVariants as files
use Rattle.pass_program.specs.Changes.{request_answer, session_key, ticket_answer}
use Rattle.pass_program.specs.Sessions.{Asked, IsSession, Refused, answers_of, bytes_of, notes_of, request_bytes}
use Rattle.pass_program.specs.Changing.{Moment, Moves, LeavesTable, Taken}
use Rattle.pass_program.specs.declared.fill.Lack.{Lack}
use Rattle.pass_program.specs.declared.fill.Lack.TheVariants.{Ended, Failed}
use Rattle.pass_program.specs.declared.session.Session.{Session}
use Rattle.pass_program.specs.declared.status.PassStatus.{PassStatus}
use Rattle.pass_program.specs.declared.status.PassStatus.TheVariants.{Fine, ReadFault, WriteFault, Torn, Refused as WasRefused, NoMemory, Flood}

-- ---- a buffer that isn't filled

-- what a reading that lacks some of a buffer has taken; so many of its bytes stood in it before
abbrev pub LacksSo : Lack → Option (List ℕ) → Option (List ℕ) → ℕ → ℕ → Type 0
LacksSo (Ended have) before now from size =
    (part : List ℕ) × Consumes before now part × (have ≡ from + length part) × (from + length part < size) × IsAtEnd now
LacksSo Failed before now from size = (part : List ℕ) × Consumes before now part × (from + length part < size)

-- how a session ends that lacks some of the message at a place
abbrev pub ended_at : ℕ → ℕ → PassStatus
ended_at have at = if have == 0 then Fine false else Torn at

abbrev pub lack_at : Lack → ℕ → PassStatus
lack_at (Ended have) at = ended_at have at
lack_at Failed at = ReadFault

-- ---- the request

-- a moment at which the client's source has this left
abbrev pub at_left : Moment → Option (List ℕ) → Moment
at_left o left = record { left = left; to_come = o.to_come; holds = o.holds; table = o.table; noted = o.noted }

-- a whole request of the kind that is served was read
pub record IsRequested (before now : Option (List ℕ)) (request : List ℕ) : Type 0 where
  pub read : Consumes before now request
  pub whole : length request ≡ request_bytes
  pub kind : slice_index request 0 ≡ password_request

-- it can be read, and its ticket was written
pub record IsAnswered (keys : List KeyLine) (request : List ℕ) (words : List (List ℕ)) (before now : Option (List ℕ))
    (session : Session) : Type 0 where
  pub r : TicketReq
  pub read : request_of request ≡ Ok r
  pub told : Gains before now (ticket_answer keys words r)
  pub user : session.user ≡ r.uid
  pub key : session.key.0 ≡ session_key words

-- or a field is bad, and that was written
pub record IsDenied (request : List ℕ) (before now : Option (List ℕ)) : Type 0 where
  pub fault : FieldFault
  pub bad : request_of request ≡ Err fault
  pub told : Gains before now (refusal (codes "bad request"))

-- by the status that ends the session there
abbrev pub AnswerEnds : List KeyLine → List ℕ → List (List ℕ) → PassStatus → Option (List ℕ) → Option (List ℕ) → Type 0
AnswerEnds keys request words WriteFault before now =
    GainsFront before now (request_answer keys words (request_of request))
AnswerEnds keys request words WasRefused before now = IsDenied request before now
AnswerEnds keys request words status before now = ⊥

-- fewer than two words were drawn
pub record DrawsNotBoth (words later : Option (List (List ℕ))) : Type 0 where
  pub drawn : List (List ℕ)
  pub drew : DrawsAll words later drawn
  pub few : length drawn < 2

-- ---- the messages behind it

-- a session with so many refusals was served
pub record Served (keys : List KeyLine) (before now : Moment) (session : Session) (refusals : ℕ) : Type 0 where
  pub asked : Asked
  pub r : TicketReq
  pub tries : List Refused
  pub stands : IsSession keys asked r tries
  pub moves : Moves before now (bytes_of asked tries) asked.words (answers_of keys asked r tries) (notes_of r.uid tries)
  pub kept : LeavesTable before now
  pub user : session.user ≡ r.uid
  pub key : session.key.0 ≡ session_key asked.words
  pub count : length tries ≡ refusals

-- the next message is taken, and not yet answered
pub record Hears (keys : List KeyLine) (before now : Moment) (user password : List ℕ) : Type 0 where
  pub asked : Asked
  pub r : TicketReq
  pub tries : List Refused
  pub message : List ℕ
  pub taken : Taken keys asked r tries message password
  pub moves : Moves before now (bytes_of asked tries ++ message) asked.words (answers_of keys asked r tries)
      (notes_of r.uid tries)
  pub kept : LeavesTable before now
  pub same : user ≡ r.uid

-- a message is taken, or one more was refused
abbrev pub HearsOne : List KeyLine → Moment → Moment → Session → ℕ → Option (List ℕ) → Type 0
HearsOne keys before now session refusals None = Served keys before now session (refusals + 1)
HearsOne keys before now session refusals (Some password) = Hears keys before now session.user password

-- ---- the table of keys

-- the statuses that reading a file may end with, and what they are here
abbrev pub IsFileEnd : Status → Type 0
IsFileEnd files.ReadFault = Unit {0}
IsFileEnd files.NoMemory = Unit {0}
IsFileEnd (files.Flood limit) = Unit {0}
IsFileEnd status = ⊥

abbrev pub end_of_file : Status → PassStatus
end_of_file (files.Flood limit) = Flood limit
end_of_file files.NoMemory = NoMemory
end_of_file status = ReadFault
