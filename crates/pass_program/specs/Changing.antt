-- What a change of password has read, drawn, written and noted when it ends: the table of keys, and one client's
-- session. Content is optional: the words on it hold where it is told. After AuthPass of authsrv(6) of the Plan 9
-- manual; that one session is served, and that the whole table is written before the client is told, are this
-- project's.
use Rattle.std.specs.Prelude.{◌≡◌, ◌≢◌, ◌⊎◌, ℕ, ◌+◌, ◌*◌, ◌<◌, List, [], ◌∷◌, ◌++◌, true, false, codes, length, slice_index, Option, Some, None, Ok, Err}
use Rattle.std.specs.Io.KnownBytes.{Consumes, IsAtEnd}
use Rattle.wire_base.specs.Kinds.{answer_ok, password_request}
use Rattle.wire_streams.specs.Spawning.{Gains as Notes}
use Rattle.wire_streams.specs.Streams.{Gains}
use Rattle.wire_streams.specs.Whole.{GainsFront}
use Rattle.sealing.specs.Request.{request_of}
use Rattle.sealing.specs.declared.fault.FieldFault.{FieldFault}
use Rattle.sealing.specs.declared.request.TicketReq.{TicketReq}
use Rattle.auth_tables.specs.Keys.{KeyLine, bad_key_line, key_of, table_keys}
use Rattle.auth_tables.specs.Printing.{IsTable, table_text, with_password}
use Rattle.auth_server.specs.Answers.{refusal}
use Rattle.auth_server.specs.Sessions.{DrawsAll}
use Rattle.auth_program.specs.Files.{FloodsFile, ReadsFile, ReadsPart, most_file}
use Rattle.pass_program.specs.Changes.{judged, most_refusals, refused, request_answer, session_key}
use Rattle.pass_program.specs.Sessions.{AreRefused, Asked, GoesOn, IsAsked, IsSession, Refused, answers_of, bytes_of, message_bytes, notes_of, request_bytes}
use Rattle.pass_program.specs.declared.refusal.Event.{Event}
use Rattle.pass_program.specs.declared.refusal.Event.TheVariants.{Changed, Refused as NotedRefusal}
use Rattle.pass_program.specs.declared.refusal.Refusal.TheVariants.{TableNotWritten}
use Rattle.pass_program.specs.declared.status.PassStatus.{PassStatus}
use Rattle.pass_program.specs.declared.status.PassStatus.TheVariants.{Fine, Usage, ReadFault, WriteFault, WordFault, Torn, BadTable, Refused as WasRefused, NoMemory, Flood}

-- What the outside of a session tells at a moment: what the client's source has left, the words that are to come,
-- what the client's sink and that of the new table hold, and what was noted.
pub record Moment : Type 0 where
  pub left : Option (List ℕ)
  pub to_come : Option (List (List ℕ))
  pub holds : Option (List ℕ)
  pub table : Option (List ℕ)
  pub noted : Option (List (List ℕ × Event))

abbrev pub moment : Option (List ℕ) → Option (List (List ℕ)) → Option (List ℕ) → Option (List ℕ)
    → Option (List (List ℕ × Event)) → Moment
moment left to_come holds table noted = record {
  left = left;
  to_come = to_come;
  holds = holds;
  table = table;
  noted = noted;
}

-- these bytes of the client were read, these words drawn, these bytes written to it, and these events noted
pub record Moves (before now : Moment) (read : List ℕ) (drawn : List (List ℕ)) (answered : List ℕ)
    (noted : List (List ℕ × Event)) : Type 0 where
  pub took : Consumes before.left now.left read
  pub drew : DrawsAll before.to_come now.to_come drawn
  pub told : Gains before.holds now.holds answered
  pub notes : Notes before.noted now.noted noted

-- the same, but that of the last answer a front was written, of which some is missing
pub record Loses (before now : Moment) (read : List ℕ) (drawn : List (List ℕ)) (answered last : List ℕ)
    (noted : List (List ℕ × Event)) : Type 0 where
  pub front : List ℕ
  pub rest : List ℕ
  pub parts : last ≡ front ++ rest
  pub missing : 0 < length rest
  pub moves : Moves before now read drawn (answered ++ front) noted

-- nothing was written to the table
abbrev pub LeavesTable : Moment → Moment → Type 0
LeavesTable before now = now.table ≡ before.table

-- ---- a session under way

-- its request and refused messages were read and answered, with these bytes behind them; nothing was written to the
-- table
pub record Talked (keys : List KeyLine) (before now : Moment) (asked : Asked) (r : TicketReq) (tries : List Refused)
    (rest : List ℕ) : Type 0 where
  pub goes_on : GoesOn keys asked r tries
  pub moves : Moves before now (bytes_of asked tries ++ rest) asked.words (answers_of keys asked r tries)
      (notes_of r.uid tries)
  pub kept : LeavesTable before now

-- the message behind them is taken: it asks for this password
pub record Taken (keys : List KeyLine) (asked : Asked) (r : TicketReq) (tries : List Refused)
    (message password : List ℕ) : Type 0 where
  pub goes_on : GoesOn keys asked r tries
  pub whole : length message ≡ message_bytes
  pub taken : judged keys r.uid (session_key asked.words) message ≡ Ok password

-- the text of the table with it
abbrev pub new_table : List KeyLine → TicketReq → List ℕ → List ℕ
new_table keys r password = table_text (with_password r.uid password keys)

-- ---- the ends of a session

-- the password was changed: the whole table was written, and the client was told
pub record Changes (keys : List KeyLine) (before now : Moment) : Type 0 where
  pub asked : Asked
  pub r : TicketReq
  pub tries : List Refused
  pub message : List ℕ
  pub password : List ℕ
  pub taken : Taken keys asked r tries message password
  pub moves : Moves before now (bytes_of asked tries ++ message) asked.words
      (answers_of keys asked r tries ++ answer_ok ∷ [])
      (notes_of r.uid tries ++ (r.uid, Changed) ∷ [])
  pub wrote : Gains before.table now.table (new_table keys r password)

-- the input ended before the first byte of a message
pub record EndsEmpty (before now : Moment) : Type 0 where
  pub moves : Moves before now [] [] [] []
  pub kept : LeavesTable before now
  pub at_end : IsAtEnd now.left

pub record EndsBetween (keys : List KeyLine) (before now : Moment) : Type 0 where
  pub asked : Asked
  pub r : TicketReq
  pub tries : List Refused
  pub talked : Talked keys before now asked r tries []
  pub at_end : IsAtEnd now.left

-- a part of the request was read, which is of the kind that is served as far as it goes
pub record ReadsRequest (before now : Moment) (part : List ℕ) : Type 0 where
  pub moves : Moves before now part [] [] []
  pub kept : LeavesTable before now
  pub short : length part < request_bytes
  pub kind : 0 < length part → slice_index part 0 ≡ password_request

-- a part of a message was read behind the others
pub record ReadsMessage (keys : List KeyLine) (before now : Moment) (at : ℕ) (part : List ℕ) : Type 0 where
  pub asked : Asked
  pub r : TicketReq
  pub tries : List Refused
  pub talked : Talked keys before now asked r tries part
  pub short : length part < message_bytes
  pub place : at ≡ request_bytes + message_bytes * length tries

-- the input ended inside the message at a place
pub record TearsRequest (at : ℕ) (before now : Moment) : Type 0 where
  pub part : List ℕ
  pub some : 0 < length part
  pub reads : ReadsRequest before now part
  pub first : at ≡ 0
  pub at_end : IsAtEnd now.left

pub record TearsMessage (keys : List KeyLine) (at : ℕ) (before now : Moment) : Type 0 where
  pub part : List ℕ
  pub some : 0 < length part
  pub reads : ReadsMessage keys before now at part
  pub at_end : IsAtEnd now.left

-- a read failed inside the request, or behind it
abbrev pub LosesInput : List KeyLine → Moment → Moment → Type 0
LosesInput keys before now = ((part : List ℕ) × ReadsRequest before now part)
    ⊎ ((at : ℕ) × (part : List ℕ) × ReadsMessage keys before now at part)

-- the first byte is of another kind; no more was read
pub record MeetsOther (before now : Moment) : Type 0 where
  pub kind : ℕ
  pub other : kind ≢ password_request
  pub moves : Moves before now (kind ∷ []) [] [] []
  pub kept : LeavesTable before now

-- a field of the request is bad
pub record MeetsBadRequest (before now : Moment) : Type 0 where
  pub asked : Asked
  pub fault : FieldFault
  pub asks : IsAsked asked
  pub bad : request_of asked.request ≡ Err fault
  pub moves : Moves before now asked.request asked.words (refusal (codes "bad request")) []
  pub kept : LeavesTable before now

-- the last of the messages is one refusal too many
pub record EndsRefused (keys : List KeyLine) (before now : Moment) : Type 0 where
  pub asked : Asked
  pub r : TicketReq
  pub tries : List Refused
  pub session : IsSession keys asked r tries
  pub many : length tries ≡ most_refusals
  pub moves : Moves before now (bytes_of asked tries) asked.words (answers_of keys asked r tries) (notes_of r.uid tries)
  pub kept : LeavesTable before now

-- for a whole request fewer than two words were drawn
pub record LacksWords (before now : Moment) : Type 0 where
  pub request : List ℕ
  pub drawn : List (List ℕ)
  pub whole : length request ≡ request_bytes
  pub kind : slice_index request 0 ≡ password_request
  pub few : length drawn < 2
  pub moves : Moves before now request drawn [] []
  pub kept : LeavesTable before now

-- An answer to the client wasn't taken whole. Which answer that is: to the request, to a message that is refused, to
-- one that is taken, behind its table, or that the table wasn't taken.
pub record LosesRequest (keys : List KeyLine) (before now : Moment) : Type 0 where
  pub asked : Asked
  pub asks : IsAsked asked
  pub loses : Loses before now asked.request asked.words []
      (request_answer keys asked.words (request_of asked.request)) []
  pub kept : LeavesTable before now

pub record LosesRefusal (keys : List KeyLine) (before now : Moment) : Type 0 where
  pub asked : Asked
  pub r : TicketReq
  pub tries : List Refused
  pub last : Refused
  pub goes_on : GoesOn keys asked r tries
  pub all_refused : AreRefused keys r.uid (session_key asked.words) (last ∷ tries)
  pub loses : Loses before now (bytes_of asked (last ∷ tries)) asked.words (answers_of keys asked r tries)
      (refused last.why) (notes_of r.uid (last ∷ tries))
  pub kept : LeavesTable before now

pub record LosesConsent (keys : List KeyLine) (before now : Moment) : Type 0 where
  pub asked : Asked
  pub r : TicketReq
  pub tries : List Refused
  pub message : List ℕ
  pub password : List ℕ
  pub taken : Taken keys asked r tries message password
  pub loses : Loses before now (bytes_of asked tries ++ message) asked.words (answers_of keys asked r tries)
      (answer_ok ∷ []) (notes_of r.uid tries)
  pub wrote : Gains before.table now.table (new_table keys r password)

-- the table wasn't taken whole; the client is told so, whole or as far as that was taken
pub record LosesTable (keys : List KeyLine) (before now : Moment) : Type 0 where
  pub asked : Asked
  pub r : TicketReq
  pub tries : List Refused
  pub message : List ℕ
  pub password : List ℕ
  pub front : List ℕ
  pub rest : List ℕ
  pub taken : Taken keys asked r tries message password
  pub parts : refused TableNotWritten ≡ front ++ rest
  pub moves : Moves before now (bytes_of asked tries ++ message) asked.words (answers_of keys asked r tries ++ front)
      (notes_of r.uid tries ++ (r.uid, NotedRefusal TableNotWritten) ∷ [])
  pub wrote : GainsFront before.table now.table (new_table keys r password)

-- memory ran out for the new table, of which nothing was written
pub record LacksMemory (keys : List KeyLine) (before now : Moment) : Type 0 where
  pub asked : Asked
  pub r : TicketReq
  pub tries : List Refused
  pub message : List ℕ
  pub password : List ℕ
  pub taken : Taken keys asked r tries message password
  pub moves : Moves before now (bytes_of asked tries ++ message) asked.words (answers_of keys asked r tries)
      (notes_of r.uid tries)
  pub kept : LeavesTable before now

-- what a session by a table that ended so has read, drawn, written and noted; no other status ends it
abbrev pub SessionEnds : List KeyLine → PassStatus → Moment → Moment → Type 0
SessionEnds keys (Fine true) before now = Changes keys before now
SessionEnds keys (Fine false) before now = EndsEmpty before now ⊎ EndsBetween keys before now
SessionEnds keys Usage before now = ⊥
SessionEnds keys ReadFault before now = LosesInput keys before now
SessionEnds keys WriteFault before now = LosesRequest keys before now
    ⊎ (LosesRefusal keys before now ⊎ (LosesConsent keys before now ⊎ LosesTable keys before now))
SessionEnds keys WordFault before now = LacksWords before now
SessionEnds keys (Torn at) before now = TearsRequest at before now ⊎ TearsMessage keys at before now
SessionEnds keys (BadTable line) before now = ⊥
SessionEnds keys WasRefused before now =
    MeetsOther before now ⊎ (MeetsBadRequest before now ⊎ EndsRefused keys before now)
SessionEnds keys NoMemory before now = LacksMemory keys before now
SessionEnds keys (Flood limit) before now = ⊥

-- a fault comes only from reads, writes or draws that failed: what is said of each
abbrev pub IsCaused : PassStatus → Type 0 → Type 0 → Type 0 → Type 0
IsCaused ReadFault reads writes draws = reads
IsCaused WriteFault reads writes draws = writes
IsCaused WordFault reads writes draws = draws
IsCaused status reads writes draws = Unit {0}

-- ---- the table of keys, which is read before the client is looked at

-- what the outside tells at a moment: what the file of keys has left, and what there is of the session
pub record Outside : Type 0 where
  pub keys : Option (List ℕ)
  pub session : Moment

abbrev pub outside : Option (List ℕ) → Option (List ℕ) → Option (List (List ℕ)) → Option (List ℕ) → Option (List ℕ)
    → Option (List (List ℕ × Event)) → Outside
outside keys left to_come holds table noted = record { keys = keys; session = moment left to_come holds table noted }

-- the table was read whole, and has no bad line; what is known is what it says
pub record Knows (before now : Option (List ℕ)) (keys : List KeyLine) : Type 0 where
  pub file : List ℕ
  pub read : ReadsFile before now file
  pub good : bad_key_line file ≡ None
  pub table : IsTable keys
  pub says : (user : List ℕ) → key_of user keys ≡ key_of user (table_keys file)

-- a bad line of the table, which was read whole
pub record MeetsBadLine (line : ℕ) (before now : Option (List ℕ)) : Type 0 where
  pub file : List ℕ
  pub read : ReadsFile before now file
  pub bad : bad_key_line file ≡ Some line

-- why nothing is known of the table, by the status
abbrev pub TableEnds : PassStatus → Option (List ℕ) → Option (List ℕ) → Type 0
TableEnds ReadFault before now = ReadsPart before now
TableEnds (BadTable line) before now = MeetsBadLine line before now
TableEnds NoMemory before now = Unit {0}
TableEnds (Flood limit) before now = (limit ≡ most_file) × FloodsFile before now
TableEnds status before now = ⊥

-- ---- the whole

-- the table came to this end, and nothing else was touched
pub record StopsEarly (status : PassStatus) (before now : Outside) : Type 0 where
  pub ends : TableEnds status before.keys now.keys
  pub untouched : now.session ≡ before.session

-- a session came to this end, by what the table says
pub record Serves (status : PassStatus) (before now : Outside) : Type 0 where
  pub keys : List KeyLine
  pub knows : Knows before.keys now.keys keys
  pub ends : SessionEnds keys status before.session now.session

-- what a change of password that ended so has read, drawn, written and noted
abbrev pub EndsSo : PassStatus → Outside → Outside → Type 0
EndsSo status before now = StopsEarly status before now ⊎ Serves status before now
