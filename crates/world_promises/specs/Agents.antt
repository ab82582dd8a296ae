-- What a turn does to an agent, in the words of its conversations: what comes of a request that is read, of an answer
-- of the authentication server, and of a closing.
use Rattle.std.specs.Prelude.{◌≡◌, ℕ, List, [], ◌∷◌, map, Bool, true, false, Option, Some, None}
use Rattle.std.specs.Str.{bytes_eq}
use Rattle.nine.specs.declared.message.RMsg.{RMsg}
use Rattle.nine.specs.declared.message.RBody.{RBody}
use Rattle.nine.specs.declared.message.RBody.TheVariants as r
use Rattle.roles.specs.declared.need.Need.{Need}
use Rattle.roles.specs.declared.need.Need.TheVariants.{Nothing, Key, Offers, Pick, Exchange}
use Rattle.roles.specs.Talks.{Call as Move, heard, unheard}
use Rattle.talks.specs.Protocols.{needs}
use Rattle.talks.specs.RpcAnswers.{answer_text}
use Rattle.talks.specs.Requests.{RpcRequest}
use Rattle.talks.specs.Requests as rpc
use Rattle.talks.specs.declared.said.Said.{Said}
use Rattle.talks.specs.Standings.{Begun, Phase, Standing, Waiting, OnServer, Kept, carried_out, made, need_in, outcome_of}
use Rattle.agent_history.specs.declared.event.Event.{Event}
use Rattle.agent_history.specs.declared.event.Event.TheVariants as events
use Rattle.agent_history.specs.declared.event.Event.TheVariants.{NoAnswer}
use Rattle.agent_history.specs.Conversations.{opened_talks, standing_of}
use Rattle.agent_history.specs.Histories.{History, deeds}
use Rattle.wire_histories.specs.Conversations.{is_asked}
use Rattle.world_history.specs.Acts.{Act}
use Rattle.world_history.specs.Driving.{clunks, drive, is_refused, reads, replies_to, writes}
use Rattle.world_history.specs.Talking.{Asks, Came, came, gets, gives, is_taken, request_text, starts, word_of}
use Rattle.world_history.specs.Turns.{Turn, after, asks, closes, hears, lets_open, misses, tells}
use Rattle.world_history.specs.Worlds.{Done, done_by, history}
use Rattle.world_promises.specs.Telling.{Searches, answer_acts, idle, is_taken_in, on_server}
use Rattle.world_promises.specs.Settings.{Place, place_of}

-- with what the conversation of a number was started, and what it met since
abbrev pub begun_in : History → ℕ → Option Begun
begun_in h number = (standing_of (deeds h) number).begun

-- an event leaves it as it was
abbrev pub Stays : ℕ → Event → History → Type 0
Stays number event h = begun_in (event ∷ h) number ≡ begun_in h number

-- the request of rpc that is made
abbrev pub asked_as : Asks → RpcRequest
asked_as (starts word tuple) = rpc.starts tuple
asked_as gets = rpc.reads
asked_as (gives bytes) = rpc.writes bytes

-- ---- what comes of an event

-- the bodies of the replies, and the bytes of the questions
abbrev pub bodies : Came → List RBody
bodies c = map (λ m. m.body) c.replies

abbrev pub asked_in : Came → List (List ℕ)
asked_in c = map (λ q. q.bytes) c.questions

-- by how the conversation stands then: its answer is read, or the authentication server is asked
abbrev pub answers_in : Phase → List RBody
answers_in (Kept answer) = r.Read (answer_text answer) ∷ []
answers_in phase = []

abbrev pub question_in : Need → List (List ℕ)
question_in (Exchange request shape) = request ∷ []
question_in (Key template) = []
question_in (Offers template) = []
question_in (Pick templates) = []
question_in Nothing = []

abbrev pub questions_in : Phase → Need → List (List ℕ)
questions_in OnServer need = question_in need
questions_in phase need = []

-- its answer is read; or that is longer than the read may hold, and gives no message
pub data Answers : List RBody → Phase → Type 0 where
  reads_all : {told : List RBody} {phase : Phase} → told ≡ answers_in phase → Answers told phase
  reads_none : {told : List RBody} {phase : Phase} (text : List ℕ) → told ≡ r.Error text ∷ [] → answer_acts phase ≡ []
      → Answers told phase

pub record Comes (c : Came) (old new : Standing) : Type 0 where
  pub replies : Answers (bodies c) new.phase
  pub questions : asked_in c ≡ questions_in new.phase (need_in new.begun)
  pub before : c.before ≡ outcome_of old
  pub now : c.now ≡ outcome_of new

-- no reply gives what was read
abbrev pub is_read : RBody → Bool
is_read (r.Read text) = true
is_read body = false

abbrev pub GiveNothing : List RMsg → Type 0
GiveNothing [] = Unit {0}
GiveNothing (m ∷ more) = (is_read m.body ≡ false) × GiveNothing more

-- ---- requests

-- the read behind a write is refused, which changes nothing
pub record IsUnread (number fid : ℕ) (what : Asks) (h : History) : Type 0 where
  pub text : List ℕ
  pub replies : bodies (came fid (reads fid (word_of what)) h) ≡ r.Error text ∷ []
  pub questions : asked_in (came fid (reads fid (word_of what)) h) ≡ []
  pub same : (came fid (reads fid (word_of what)) h).now ≡ (came fid (reads fid (word_of what)) h).before
  pub stays : Stays number (reads fid (word_of what)) h

-- it carries the request out, by searches that ask nobody
pub record IsCarried (number fid : ℕ) (what : Asks) (h : History) : Type 0 where
  pub begun : Option Begun
  pub said : Said
  pub now : Standing
  pub stood : standing_of (deeds h) number ≡ idle begun (Waiting (asked_as what)) said
  pub rests : need_in begun ≡ Nothing
  pub searches : Searches (carried_out (idle begun (Waiting (asked_as what)) said) (word_of what) (asked_as what)) now
  pub stands : begun_in (reads fid (word_of what) ∷ h) number ≡ now.begun
  pub comes : Comes (came fid (reads fid (word_of what)) h) (idle begun (Waiting (asked_as what)) said) now
  -- what tells whether bytes were taken is the answer
  pub taken : is_taken (came fid (reads fid (word_of what)) h).replies ≡ is_taken_in now.phase

abbrev pub write_of : ℕ → Asks → Event
write_of fid what = writes fid (request_text what)

pub data RequestDoes : ℕ → ℕ → Asks → History → Type 0 where
  -- the write is refused
  is_turned_away : {number fid : ℕ} {what : Asks} {h : History} → is_refused (replies_to (write_of fid what) h) ≡ true
      → GiveNothing (replies_to (write_of fid what) h) → RequestDoes number fid what h
  -- the read is
  isnt_read : {number fid : ℕ} {what : Asks} {h : History} → is_refused (replies_to (write_of fid what) h) ≡ false
      → IsUnread number fid what (drive (write_of fid what) h) → RequestDoes number fid what h
  -- neither is
  is_carried : {number fid : ℕ} {what : Asks} {h : History} → is_refused (replies_to (write_of fid what) h) ≡ false
      → IsCarried number fid what (drive (write_of fid what) h) → RequestDoes number fid what h

-- ---- the authentication server, and closing

pub record AnswerDoes (number fid : ℕ) (event : Event) (call : Move) (h : History) : Type 0 where
  pub begun : Begun
  pub starting : Bool
  pub said : Said
  pub stood : standing_of (deeds h) number ≡ on_server begun starting said
  pub asked : is_asked (needs begun.start begun.moves) ≡ true
  pub stands : begun_in (event ∷ h) number ≡ (made (on_server begun starting said) call (Some begun)).begun
  pub comes : Comes (came fid event h) (on_server begun starting said)
      (made (on_server begun starting said) call (Some begun))

abbrev pub CloseDoes : ℕ → History → Type 0
CloseDoes fid h = GiveNothing (replies_to (clunks fid) h)

-- ---- turns

-- a turn leaves a conversation as it was
abbrev pub Leaves : ℕ → Turn → History → Type 0
Leaves number turn h = begun_in (after turn h) number ≡ begun_in h number

-- what has to be so of its events: no other conversation is read, or is answered
abbrev pub EventsLeave : ℕ → Turn → History → Type 0
EventsLeave number (tells node line) h = Unit {0}
EventsLeave number (lets_open fid) h = Unit {0}
EventsLeave number (asks conv fid what) h = is_refused (replies_to (write_of fid what) h) ≡ false
    → Stays number (reads fid (word_of what)) (drive (write_of fid what) h)
EventsLeave number (hears conv fid call bytes) h = Stays number (events.Answer call bytes) h
EventsLeave number (misses conv fid call) h = Stays number (NoAnswer call) h
EventsLeave number (closes conv fid) h = Unit {0}

-- a turn that a conversation is asked something by, or hears something
abbrev pub TurnDoes : ℕ → Turn → History → Type 0
TurnDoes number (tells node line) h = EventsLeave number (tells node line) h
TurnDoes number (lets_open fid) h = EventsLeave number (lets_open fid) h
TurnDoes number (asks conv fid what) h = RequestDoes number fid what h
TurnDoes number (hears conv fid call bytes) h = AnswerDoes number fid (events.Answer call bytes) (heard bytes) h
TurnDoes number (misses conv fid call) h = AnswerDoes number fid (NoAnswer call) unheard h
TurnDoes number (closes conv fid) h = CloseDoes fid h

-- the conversation that something is done to
abbrev pub conv_in : Turn → List ℕ
conv_in (tells node line) = []
conv_in (lets_open fid) = []
conv_in (asks conv fid what) = conv
conv_in (hears conv fid call bytes) = conv
conv_in (misses conv fid call) = conv
conv_in (closes conv fid) = conv

abbrev pub DoesTo : Bool → ℕ → Turn → History → Type 0
DoesTo true number turn h = TurnDoes number turn h
DoesTo false number turn h = EventsLeave number turn h

-- the next conversation of each agent has met nothing yet
abbrev pub NextIsNew : List Act → Type 0
NextIsNew before =
    (agent : List ℕ) → begun_in (history before agent) (opened_talks (deeds (history before agent))) ≡ None

-- each act does so to the conversations of its agent, before which the next one is new
pub record AgentDoes (before : List Act) (act : Act) : Type 0 where
  pub turns : (done : Done) (name : List ℕ) (place : Place) → done_by before act ≡ Some done
      → place_of before name ≡ Some place → bytes_eq done.agent place.agent ≡ true
      → DoesTo (bytes_eq (conv_in done.turn) name) place.number done.turn (history before place.agent)
  pub opens : NextIsNew before

abbrev pub AgentsDo : List Act → Type 0
AgentsDo [] = Unit {0}
AgentsDo (act ∷ before) = AgentDoes before act × AgentsDo before
