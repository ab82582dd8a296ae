-- What a batch of frames of one connection enters in one turn, and what it puts out; the same of a turn of takes
-- alone; and what many such turns come to, one behind the other.
use Rattle.std.specs.Prelude.{◌≡◌, ◌≤◌, ℕ, List, [], ◌∷◌, ◌++◌, length, map, filter, take, drop, Bool, true, false, not, ◌==◌}
use Rattle.nine.specs.Framing.{IsWithin}
use Rattle.turn_lock.specs.Fronts.{Front, events, made, own}
use Rattle.turn_lock.specs.Seats.{front, numbers}
use Rattle.agent_history.specs.declared.event.Event.{Event}
use Rattle.agent_history.specs.declared.event.Event.TheVariants.{Request, Take}
use Rattle.agent_history.specs.Histories.{History, answer, has_stopped, is_reply}
use Rattle.agent_core.specs.declared.agent.Agent.{Agent}
use Rattle.agent_core.specs.Agents.{StandsFor}
use Rattle.agent_core.specs.declared.served.TakeEnd.{TakeEnd}
use Rattle.agent_core.specs.Serves.{EndsSo, takes, took}
use Rattle.agent_hub.specs.declared.exchange.Exchanged.{Exchanged}
use Rattle.agent_hub.specs.declared.exchange.TakesEnd.{TakesEnd}
use Rattle.agent_hub.specs.declared.exchange.TakesEnd.TheVariants.{NoneLeft, Stopped, Left}
use Rattle.agent_hub.specs.Submits.{HubSeat}
use Rattle.agent_hub.specs.Entries.{Adds, Entered, events_in, in_turn, text_of}
use Rattle.agent_hub.specs.Requesting.{Drawn, drawn_for, frames_in, frames_of, most_frame, requests, words_of}

abbrev pub is_take : ℕ → Event → Bool
is_take conn (Take other) = other == conn
is_take conn event = false

-- events without the takes on a connection
abbrev pub without_takes : ℕ → List Event → List Event
without_takes conn events = filter (λ (event : Event). not (is_take conn event)) events

-- The seat's own new entries were made in one turn: what others did meanwhile stands before all of them. What they
-- were answered, the oldest first, was put out behind what was there; a request is answered by no bytes, so this is
-- what the takes among them gave
pub record Puts (mine : List Entered) (old new : List ℕ) (before after : HubSeat) : Type 0 where
  pub others : Front Event
  pub goes_on : front after ≡ made (numbers before) (events_in mine) ++ (others ++ front before)
  pub of_others : own (numbers before) others ≡ []
  pub added : Adds mine before after
  pub out : new ≡ old ++ text_of mine

-- why no more replies were taken: none is left, or the agent has stopped. Memory may be short at any time
abbrev pub TakesEndSo : TakesEnd → ℕ → History → Type 0
TakesEndSo NoneLeft conn history = (has_stopped history ≡ false) × (is_reply (answer history (Take conn)).0 ≡ false)
TakesEndSo Stopped conn history = has_stopped history ≡ true
TakesEndSo Left conn history = Unit {0}

-- unless memory was short all were entered
abbrev pub EntersAll : TakesEnd → ℕ → ℕ → Type 0
EntersAll NoneLeft entered count = entered ≡ count
EntersAll Stopped entered count = entered ≡ count
EntersAll Left entered count = entered ≤ count

-- A batch of frames, and words for them: the first frames were entered as requests, in order, each with its word,
-- with takes on the connection between and behind them; as many as there are words, unless memory or frames are short
pub record IsExchanged (conn : ℕ) (frames words : List (List ℕ)) (came : Exchanged) (old new : List ℕ)
    (before after : HubSeat) : Type 0 where
  pub mine : List Entered
  pub puts : Puts mine old new before after
  pub drawn : List Drawn
  pub frames_are : frames_of drawn ≡ take came.entered frames
  pub words_are : words_of drawn ≡ take came.entered words
  pub there : came.entered ≤ length frames
  pub all : EntersAll came.end came.entered (length words)
  pub asks : without_takes conn (events_in mine) ≡ requests conn drawn
  pub ends : TakesEndSo came.end conn (events (front after))

-- takes alone
pub record IsCollected (conn : ℕ) (end : TakesEnd) (old new : List ℕ) (before after : HubSeat) : Type 0 where
  pub mine : List Entered
  pub puts : Puts mine old new before after
  pub asks : without_takes conn (events_in mine) ≡ []
  pub ends : TakesEndSo end conn (events (front after))

-- The seat's own new entries since it was `first` are, without takes, these requests, and this text is what they were
-- answered
pub record Converses (conn : ℕ) (drawn : List Drawn) (text : List ℕ) (first after : HubSeat) : Type 0 where
  pub mine : List Entered
  pub added : Adds mine first after
  pub asks : without_takes conn (events_in mine) ≡ requests conn drawn
  pub gave : text_of mine ≡ text

-- one turn more of such a conversation
pub record GoesOn (conn : ℕ) (drawn : List Drawn) (text : List ℕ) (old new : List ℕ)
    (first after : HubSeat) : Type 0 where
  pub given : List ℕ
  pub out : new ≡ old ++ given
  pub converses : Converses conn drawn (text ++ given) first after

-- ---- of the code alone

-- a frame with the word that was drawn for it, and how many replies were taken behind it; lists of them have the
-- newest first
pub record Handled : Type 0 where
  pub drawn : Drawn
  pub taken : ℕ

abbrev pub handled_for : List ℕ → List ℕ → ℕ → Handled
handled_for frame word taken = record { drawn = drawn_for frame word; taken = taken }

abbrev pub drawn_in : List Handled → List Drawn
drawn_in some = map (λ (h : Handled). h.drawn) some

-- how many were taken behind each, those of the oldest first
abbrev pub taken_of : List Handled → List ℕ
taken_of [] = []
taken_of (h ∷ older) = taken_of older ++ h.taken ∷ []

-- the first frames and words, with these numbers of takes, behind those before
abbrev pub handled_behind : List Handled → List ℕ → List (List ℕ) → List (List ℕ) → List Handled
handled_behind before [] frames words = before
handled_behind before (n ∷ taken) [] words = before
handled_behind before (n ∷ taken) (frame ∷ frames) [] = before
handled_behind before (n ∷ taken) (frame ∷ frames) (word ∷ words) =
    handled_behind (handled_for frame word n ∷ before) taken frames words

-- what is entered for them
abbrev pub events_for : ℕ → List Handled → List Event
events_for conn [] = []
events_for conn (h ∷ older) = takes h.taken conn ++ Request conn h.drawn.frame h.drawn.word ∷ events_for conn older

-- what a batch enters, by how many replies were taken behind each of its frames
abbrev pub batch_events : ℕ → List ℕ → List (List ℕ) → List (List ℕ) → List Event
batch_events conn taken frames words = events_for conn (handled_behind [] taken frames words)

-- some of the frames were served, and what their takes gave was put out
pub record Handles (history : History) (conn : ℕ) (frames words : List (List ℕ)) (taken : List ℕ) (end : TakesEnd)
    (old new : List ℕ) : Type 0 where
  pub some : List Handled
  pub are : handled_behind [] taken frames words ≡ some
  pub counts : taken ≡ taken_of some
  pub frames_left : List (List ℕ)
  pub frames_parts : frames ≡ frames_of (drawn_in some) ++ frames_left
  pub words_left : List (List ℕ)
  pub words_parts : words ≡ words_of (drawn_in some) ++ words_left
  pub out : new ≡ old ++ text_of (in_turn history (events_for conn some))
  pub all : EntersAll end (length taken) (length words)
  pub ends : TakesEndSo end conn (events_for conn some ++ history)

pub record Serves (history : History) (conn : ℕ) (frames words : List (List ℕ)) (taken : List ℕ) (end : TakesEnd)
    (old new : List ℕ) (agent : Agent) : Type 0 where
  pub stands : StandsFor (batch_events conn taken frames words ++ history) agent
  pub handles : Handles history conn frames words taken end old new

-- between two frames: `rest` is what is left of the bytes
pub record Serving (history : History) (conn : ℕ) (frames words : List (List ℕ)) (rest : List ℕ) (index : ℕ)
    (taken : List ℕ) (end : TakesEnd) (old new : List ℕ) (agent : Agent) : Type 0 where
  pub some : List Handled
  pub counts : taken ≡ taken_of some
  pub frames_parts : frames ≡ frames_of (drawn_in some) ++ frames_in rest
  pub words_parts : words ≡ words_of (drawn_in some) ++ drop index words
  pub stands : StandsFor (events_for conn some ++ history) agent
  pub out : new ≡ old ++ text_of (in_turn history (events_for conn some))
  pub ends : TakesEndSo end conn (events_for conn some ++ history)

-- one frame: it was entered, and so many replies were taken
pub record ServesOne (history : History) (conn : ℕ) (frame word : List ℕ) (end : TakesEnd) (some more : List ℕ)
    (old new : List ℕ) (agent : Agent) : Type 0 where
  pub taken : ℕ
  pub counts : more ≡ some ++ taken ∷ []
  pub stands : StandsFor (takes taken conn ++ Request conn frame word ∷ history) agent
  pub out : new ≡ old ++ took taken conn (Request conn frame word ∷ history)
  pub ends : TakesEndSo end conn (takes taken conn ++ Request conn frame word ∷ history)

-- takes alone
pub record Collects (history : History) (conn taken : ℕ) (end : TakesEnd) (old new : List ℕ) : Type 0 where
  pub out : new ≡ old ++ text_of (in_turn history (takes taken conn))
  pub ends : TakesEndSo end conn (takes taken conn ++ history)

pub record TakesSome (history : History) (conn taken : ℕ) (end : TakesEnd) (old new : List ℕ)
    (agent : Agent) : Type 0 where
  pub stands : StandsFor (takes taken conn ++ history) agent
  pub collects : Collects history conn taken end old new

-- between two takes
pub record Taking (history : History) (conn taken : ℕ) (old new : List ℕ) (agent : Agent) : Type 0 where
  pub stands : StandsFor (takes taken conn ++ history) agent
  pub out : new ≡ old ++ text_of (in_turn history (takes taken conn))

-- one take
pub record TookOne (history : History) (conn : ℕ) (old new : List ℕ) (agent : Agent) : Type 0 where
  pub stands : StandsFor (Take conn ∷ history) agent
  pub out : new ≡ old ++ (answer history (Take conn)).1

-- no reply of a connection is left
abbrev pub HasNone : ℕ → Agent → Type 0
HasNone conn agent = (history : History) → StandsFor history agent → is_reply (answer history (Take conn)).0 ≡ false

-- the frame at the front of a stream, and what stands behind it
pub record CutsOff (stream frame behind : List ℕ) : Type 0 where
  pub parts : stream ≡ frame ++ behind
  pub within : IsWithin most_frame frame

abbrev pub EndsBy : TakeEnd → TakesEnd → Type 0
EndsBy by end = (conn : ℕ) (history : History) → EndsSo by conn history → TakesEndSo end conn history
