-- A session of a change of password: the request, and the messages behind it that were refused, the newest first. It
-- goes on until a message is taken, or there are too many refusals.
use Rattle.std.specs.Prelude.{◌≡◌, ℕ, ◌<◌, List, [], ◌∷◌, ◌++◌, length, slice_index, Ok, Err}
use Rattle.wire_base.specs.Kinds.{password_request}
use Rattle.sealing.specs.Request.{request_of}
use Rattle.sealing.specs.declared.request.TicketReq.{TicketReq}
use Rattle.auth_tables.specs.Keys.{KeyLine}
use Rattle.pass_program.specs.Changes.{judged, most_refusals, refused, session_key, ticket_answer}
use Rattle.pass_program.specs.declared.refusal.Event.{Event}
use Rattle.pass_program.specs.declared.refusal.Event.TheVariants.{Refused as WasRefused}
use Rattle.pass_program.specs.declared.refusal.Refusal.{Refusal}

-- how many bytes a request has, and a message
abbrev pub request_bytes : ℕ
request_bytes = 141

abbrev pub message_bytes : ℕ
message_bytes = 90

-- the request that begins a session, as it came, and the words of eight bytes that were drawn for it
pub record Asked : Type 0 where
  pub request : List ℕ
  pub words : List (List ℕ)

-- a request of the kind that is served, whole, with two words
pub record IsAsked (asked : Asked) : Type 0 where
  pub whole : length asked.request ≡ request_bytes
  pub kind : slice_index asked.request 0 ≡ password_request
  pub two : length asked.words ≡ 2

-- a message that was refused, and why
pub record Refused : Type 0 where
  pub message : List ℕ
  pub why : Refusal

-- each message of a user under a session's key was refused for the cause that it was told
abbrev pub AreRefused : List KeyLine → List ℕ → List ℕ → List Refused → Type 0
AreRefused keys user key [] = Unit {0}
AreRefused keys user key (it ∷ before) =
    (length it.message ≡ message_bytes) × (judged keys user key it.message ≡ Err it.why)
    × AreRefused keys user key before

-- the request can be read, and each message behind it was refused
pub record IsSession (keys : List KeyLine) (asked : Asked) (r : TicketReq) (tries : List Refused) : Type 0 where
  pub asks : IsAsked asked
  pub read : request_of asked.request ≡ Ok r
  pub refused : AreRefused keys r.uid (session_key asked.words) tries

-- it goes on: fewer messages than end it were refused
pub record GoesOn (keys : List KeyLine) (asked : Asked) (r : TicketReq) (tries : List Refused) : Type 0 where
  pub session : IsSession keys asked r tries
  pub few : length tries < most_refusals

-- ---- what came of it, in the order in which it came: its bytes, their answers, and what was noted

abbrev pub messages_of : List Refused → List ℕ
messages_of [] = []
messages_of (it ∷ before) = messages_of before ++ it.message

abbrev pub refusals_of : List Refused → List ℕ
refusals_of [] = []
refusals_of (it ∷ before) = refusals_of before ++ refused it.why

abbrev pub bytes_of : Asked → List Refused → List ℕ
bytes_of asked tries = asked.request ++ messages_of tries

abbrev pub answers_of : List KeyLine → Asked → TicketReq → List Refused → List ℕ
answers_of keys asked r tries = ticket_answer keys asked.words r ++ refusals_of tries

abbrev pub notes_of : List ℕ → List Refused → List (List ℕ × Event)
notes_of user [] = []
notes_of user (it ∷ before) = notes_of user before ++ (user, WasRefused it.why) ∷ []
