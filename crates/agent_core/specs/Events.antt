-- What an event does to what is kept of the connections, and to what they share.
use Rattle.std.specs.Prelude.{◌≡◌, ℕ, ◌≤◌, ◌<◌, ◌+◌, ◌*◌, List, [], ◌∷◌, ◌++◌, length, Bool, true, false, not, ◌&&◌, Option, Some, None, Result, Ok}
use Rattle.std.specs.Ordering.{nat_cmp}
use Rattle.std.specs.BTreeMap.{get}
use Rattle.wire_base.specs.Spans.{has_number}
use Rattle.wire_base.specs.declared.bytes.NoMemory.{NoMemory}
use Rattle.nine.specs.Decoding.{IsFrame}
use Rattle.agent_history.specs.declared.event.Event.{Event}
use Rattle.agent_history.specs.declared.event.Event.TheVariants.{Request, Hang, Answer, NoAnswer, NoRoom, Take, TakeAsk, Stop}
use Rattle.agent_history.specs.declared.event.StepAnswer.TheVariants.{Ask, Done, DropCall}
use Rattle.agent_history.specs.declared.event.StepAnswer.{StepAnswer}
use Rattle.agent_history.specs.Deeds.{Deed, was_opened, was_hung, msize_of, fid_of, held_by, text_of, is_halted}
use Rattle.agent_history.specs.Histories.{History, deeds, does, answer_after}
use Rattle.mailboxes.specs.Deliveries.{KeepsNone, replies_at}
use Rattle.agent_history.specs.Conversations.{Question, standing_of}
use Rattle.talks.specs.Standings.{question_of}
use Rattle.roles.specs.declared.need.Need.{Need}
use Rattle.roles.specs.declared.need.Need.TheVariants.{Nothing, Key, Offers, Pick, Exchange}
use Rattle.wire_base.specs.declared.shape.Shape.{Shape}
use Rattle.agent_talks.specs.Kept.{is_asked, questions_in}
use Rattle.agent_talks.specs.Kept as kept
use Rattle.agent_requests.specs.declared.connection.Connection.{Connection}
use Rattle.agent_requests.specs.Connections.{Keeps, SameKept, IsFresh, is_opened}
use Rattle.agent_core.specs.declared.connections.Connections.{Connections}
use Rattle.agent_requests.specs.declared.shared.Shared.{Shared}
use Rattle.agent_requests.specs.Sharing.{Shares}
use Rattle.agent_requests.specs.Logging.{calls_in, talks_in}

-- ---- connections

-- what is known of a number: nothing, what is kept of a connection that wasn't hung up, or that it was, of which no
-- more is kept (`forgotten`, what holds of all Connections)
pub data Known : Type 0 where
  Unknown : Known
  Live : (connection : Connection) → Known
  HungUp : Known

abbrev pub known_by : Bool → Option Connection → Known
known_by true o = HungUp
known_by false None = Unknown
known_by false (Some c) = Live c

abbrev pub known : Connections → ℕ → Known
known connections conn = known_by (has_number connections.gone.ranges conn) (get nat_cmp connections.live conn)

abbrev pub is_opened_at : Known → Bool
is_opened_at Unknown = false
is_opened_at (Live c) = is_opened c.phase
is_opened_at HungUp = true

abbrev pub is_hung_at : Known → Bool
is_hung_at HungUp = true
is_hung_at k = false

-- it was opened, and wasn't hung up
abbrev pub is_open_at : Known → Bool
is_open_at k = is_opened_at k && not (is_hung_at k)

pub record KeepsNothing (done : List Deed) (conn : ℕ) : Type 0 where
  pub live : was_hung done conn ≡ false
  pub msize : msize_of done conn ≡ None
  pub fids : (fid : ℕ) → fid_of done conn fid ≡ None
  pub held : held_by done conn ≡ 0
  pub texts : (fid : ℕ) → text_of done conn fid ≡ []

abbrev pub KeepsAt : List Deed → ℕ → Known → Type 0
KeepsAt done conn Unknown = KeepsNothing done conn
KeepsAt done conn (Live c) = Keeps done conn c
KeepsAt done conn HungUp = Unit {0}

-- what is kept of a connection is what the deeds tell of it; of one that was hung up, that it was
pub record Stands (done : List Deed) (conn : ℕ) (k : Known) : Type 0 where
  pub opened : is_opened_at k ≡ was_opened done conn
  pub hung : is_hung_at k ≡ was_hung done conn
  pub keeps : was_hung done conn ≡ false → KeepsAt done conn k

abbrev pub AllStand : List Deed → (ℕ → Known) → Type 0
AllStand done at = (conn : ℕ) → Stands done conn (at conn)

-- ---- agents

-- what is kept of one connection, and what all share
pub record Serves (done : List Deed) (conn : ℕ) (c : Connection) (s : Shared) : Type 0 where
  pub stands : Stands done conn (Live c)
  pub shares : Shares done s

-- what is kept of all connections, and what they share
pub record Lives (done : List Deed) (at : ℕ → Known) (s : Shared) : Type 0 where
  pub shares : Shares done s
  pub connections : AllStand done at

-- what lived lives after the event
abbrev pub LivesOn : Event → (ℕ → Known) → Shared → (ℕ → Known) → Shared → Type 0
LivesOn event old s new u = (done : List Deed) → Lives done old s → Lives (does done event) new u

-- ---- what stays

-- the same is kept of a number; where nothing was, a connection of which nothing is known is the same
abbrev pub SameAt : Known → Known → Type 0
SameAt Unknown Unknown = Unit {0}
SameAt Unknown (Live c) = IsFresh c
SameAt (Live c) (Live d) = SameKept c d
SameAt HungUp HungUp = Unit {0}
SameAt k l = ⊥

abbrev pub SameEach : (ℕ → Known) → (ℕ → Known) → Type 0
SameEach old new = (conn : ℕ) → SameAt (old conn) (new conn)

-- ---- events

-- an event that may come: a frame is whole, an answer of the authentication server has at most 160 bytes
abbrev pub IsEvent : Event → Type 0
IsEvent (Request conn frame word) = IsFrame frame
IsEvent (Answer call bytes) = length bytes ≤ 160
IsEvent event = Unit {0}

abbrev pub is_stop : Event → Bool
is_stop Stop = true
is_stop event = false

-- what an event is answered after some deeds, and what is put behind what was put out before
pub record AnswersAfter (done : List Deed) (event : Event) (a : StepAnswer) (old new : List ℕ) : Type 0 where
  pub answer : a ≡ (answer_after done event).0
  pub out : new ≡ old ++ (answer_after done event).1

-- while nothing stopped, it is answered so
abbrev pub AnswersFor : Event → (ℕ → Known) → Shared → StepAnswer → List ℕ → List ℕ → Type 0
AnswersFor event at s a old new =
    (done : List Deed) → is_halted done ≡ false → Lives done at s → AnswersAfter done event a old new

abbrev pub Answers : History → Event → StepAnswer → List ℕ → List ℕ → Type 0
Answers history event a old new = AnswersAfter (deeds history) event a old new

-- something is known of the connection, and there is no reply to take: it was hung up, or none is left
abbrev pub FindsNone : Known → List (List ℕ) → Type 0
FindsNone Unknown replies = ⊥
FindsNone (Live c) replies = replies ≡ []
FindsNone HungUp replies = Unit {0}

-- the questions for the authentication server that are out
abbrev pub questions : Shared → List Question
questions s = questions_in (talks_in s.talks)

-- those that weren't handed out yet
abbrev pub unasked : Shared → ℕ
unasked s = kept.unasked (talks_in s.talks)

-- how much is left to hand out. A question counts for two: what is answered to it may bring its conversation to its
-- end, which then gives up the connection that it keeps
abbrev pub left_to_ask : Shared → ℕ
left_to_ask s = unasked s * 2 + length (calls_in s.talks).drops

-- what a conversation asks the authentication server was put out, if it asks something
abbrev pub PutFor : Need → Option Shape → List ℕ → List ℕ → Type 0
PutFor (Exchange request shape) (Some told) old new = (told ≡ shape) × (new ≡ old ++ request)
PutFor (Exchange request shape) None old new = ⊥
PutFor (Key template) (Some told) old new = ⊥
PutFor (Key template) None old new = new ≡ old
PutFor (Offers template) (Some told) old new = ⊥
PutFor (Offers template) None old new = new ≡ old
PutFor (Pick templates) (Some told) old new = ⊥
PutFor (Pick templates) None old new = new ≡ old
PutFor Nothing (Some told) old new = ⊥
PutFor Nothing None old new = new ≡ old

abbrev pub IsPut : List Deed → ℕ → Option Shape → List ℕ → List ℕ → Type 0
IsPut done conv shape old new = PutFor (question_of (standing_of done conv)) shape old new

-- Events that take no memory: a take that finds no reply on a connection that is known, an answer to a question that
-- isn't out, a take of what is due where no question is, a hang, the want of an answer, and a stop.
abbrev pub TakesNoneOf : Event → (ℕ → Known) → Shared → Type 0
TakesNoneOf (Request conn frame word) at s = ⊥
TakesNoneOf (Take conn) at s = FindsNone (at conn) (replies_at s.mailboxes conn)
TakesNoneOf (Answer call bytes) at s = is_asked call (questions s) ≡ false
TakesNoneOf TakeAsk at s = unasked s ≡ 0
TakesNoneOf event at s = Unit {0}

-- a hang and a stop are done, whatever there is of memory
abbrev pub AlwaysDone : Event → Result StepAnswer NoMemory → Type 0
AlwaysDone (Hang conn) reply = reply ≡ Ok Done
AlwaysDone Stop reply = reply ≡ Ok Done
AlwaysDone event reply = Unit {0}

-- a take of the connection finds a reply: it isn't hung up, and one is left
abbrev pub is_some_left : List (List ℕ) → Bool
is_some_left [] = false
is_some_left (frame ∷ frames) = true

abbrev pub gives_reply : Known → List (List ℕ) → Bool
gives_reply k replies = not (is_hung_at k) && is_some_left replies

-- an event is answered by a reply
abbrev pub gives_to : Event → (ℕ → Known) → Shared → Bool
gives_to (Take conn) at s = gives_reply (at conn) (replies_at s.mailboxes conn)
gives_to event at s = false

-- there was a reply for a take
abbrev pub HadOne : Event → Shared → Type 0
HadOne (Take conn) s = 0 < length (replies_at s.mailboxes conn)
HadOne event s = ⊥

-- a take that gave a reply leaves one less
abbrev pub LeavesOneLess : Event → Shared → Shared → Type 0
LeavesOneLess (Take conn) old new = length (replies_at new.mailboxes conn) + 1 ≡ length (replies_at old.mailboxes conn)
LeavesOneLess event old new = ⊥

-- what is handed out is less to hand out, and what is answered to a question adds one connection at most that is
-- given up
abbrev pub AsksFewer : Event → StepAnswer → Shared → Shared → Type 0
AsksFewer TakeAsk (Ask call conv shape) old new = left_to_ask new + 2 ≡ left_to_ask old
AsksFewer TakeAsk (DropCall conv) old new = left_to_ask new + 1 ≡ left_to_ask old
AsksFewer (Answer call bytes) a old new = left_to_ask new ≤ left_to_ask old + 1
AsksFewer (NoAnswer call) a old new = left_to_ask new ≤ left_to_ask old + 1
AsksFewer (NoRoom call) a old new = left_to_ask new ≤ left_to_ask old + 1
AsksFewer event a old new = Unit {0}

-- there was something to hand out
abbrev pub HadAsk : Event → StepAnswer → Shared → Type 0
HadAsk TakeAsk (Ask call conv shape) old = 2 ≤ left_to_ask old
HadAsk TakeAsk (DropCall conv) old = 1 ≤ left_to_ask old
HadAsk event a old = Unit {0}

-- nothing is handed out
abbrev pub NoneAsked : StepAnswer → Type 0
NoneAsked (Ask call conv shape) = ⊥
NoneAsked (DropCall conv) = ⊥
NoneAsked a = Unit {0}

-- ---- memory that is given up

-- a connection that was opened is hung up now: of it nothing is kept but its number, no reply, and no read that waits
abbrev pub HangsUp : ℕ → (ℕ → Known) → (ℕ → Known) → Shared → Type 0
HangsUp conn old new s = is_open_at (old conn) ≡ true → (new conn ≡ HungUp) × KeepsNone s.mailboxes conn

-- a hang gives up what is kept of its connection
abbrev pub GivesUp : Event → (ℕ → Known) → (ℕ → Known) → Shared → Type 0
GivesUp (Hang conn) old new s = HangsUp conn old new s
GivesUp event old new s = Unit {0}
