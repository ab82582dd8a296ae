-- A history of an agent, what it did, and what the agent answers after it. A history is a list of events, the newest
-- first, so that what stands behind an event is the history before it. An entry is an event together with the number of
-- the seat that made it; what is answered doesn't depend on seats.
use Rattle.std.specs.Prelude.{ℕ, ◌+◌, List, [], ◌∷◌, length, map, Bool, true, false, not, ◌&&◌, nat_lt, if◌then◌else◌}
use Rattle.nine.specs.declared.message.RMsg.{RMsg}
use Rattle.nine.specs.Messages.{r_frame}
use Rattle.agent_history.specs.declared.event.Event.{Event}
use Rattle.agent_history.specs.declared.event.Event.TheVariants.{Request, Hang, NoAnswer, NoRoom, Take, TakeAsk, Stop, Answer as AnswerCame}
use Rattle.agent_history.specs.declared.event.StepAnswer.{StepAnswer}
use Rattle.agent_history.specs.declared.event.StepAnswer.TheVariants.{Done, Reply, NoReply, Gone, Ask, DropCall, NoAsk, Stopped}
use Rattle.agent_history.specs.Deeds.{Deed, OfReplies, OfConnection, HandedOut, DropTaken, Halted, Taken, Entered, Hung, was_opened, was_hung, is_halted, is_gone}
use Rattle.roles.specs.declared.need.Need.{Need}
use Rattle.roles.specs.declared.need.Need.TheVariants.{Nothing, Key, Offers, Pick, Exchange}
use Rattle.talks.specs.Calls.{Heard, Unheard, Roomless}
use Rattle.talks.specs.Standings.{question_of}
use Rattle.agent_history.specs.Replies.{swept, untaken}
use Rattle.agent_history.specs.Conversations.{Question, Due, NoneDue, DropDue, QuestionDue, asker, due, given_up_by, resumed, standing_of}
use Rattle.agent_history.specs.Requests.{answered, call_of}

-- an entry: who made it, and what happened
pub record Entry : Type 0 where
  pub seat : ℕ
  pub event : Event

-- the events of a list of entries
abbrev pub events_of : List Entry → List Event
events_of entries = map (λ entry. entry.event) entries

abbrev pub History : Type 0
History = List Event

-- how many events an agent carries out: it stops with the last one
abbrev pub most_events : ℕ
most_events = 1125899906842624

-- ---- what an event does

-- a connection is opened by its first request or take
abbrev pub entered : ℕ → List Deed → List Deed
entered conn done = if was_opened done conn then done else OfConnection conn Entered ∷ done

-- a take takes the oldest reply, where one is left
abbrev pub taking : ℕ → List RMsg → List Deed → List Deed
taking conn [] done = done
taking conn (reply ∷ rest) done = OfReplies conn Taken ∷ done

-- what is due is handed out, where something is
abbrev pub handing : Due → List Deed → List Deed
handing NoneDue done = done
handing (DropDue drop) done = DropTaken ∷ done
handing (QuestionDue question) done = HandedOut ∷ done

-- the deeds after an event
abbrev pub does : List Deed → Event → List Deed
does done (Request at frame word) =
    if was_hung done at then done
    else swept (answered (entered at done) (call_of at frame word) frame)
does done (Take at) = if was_hung done at then done else taking at (untaken done at) (entered at done)
does done (Hang at) =
    if was_opened done at && not (was_hung done at) then swept (given_up_by (OfConnection at Hung) done)
    else done
does done (AnswerCame call bytes) = swept (resumed (asker done call) (Heard bytes) done)
does done (NoAnswer call) = swept (resumed (asker done call) Unheard done)
does done (NoRoom call) = swept (resumed (asker done call) Roomless done)
does done TakeAsk = handing (due done) done
does done Stop = Halted ∷ done

-- the deeds after an event of this number, counted from 1: none come after a stop, and the last event stops the agent
abbrev pub after_event : ℕ → Event → List Deed → List Deed
after_event number event done =
    if is_halted done then done
    else if nat_lt number most_events then does done event
    else Halted ∷ does done event

-- what a history did
abbrev pub deeds : History → List Deed
deeds [] = []
deeds (event ∷ before) = after_event (length before + 1) event (deeds before)

-- the agent stopped
abbrev pub has_stopped : History → Bool
has_stopped history = is_halted (deeds history)

-- ---- what is answered

-- what a step answers: its answer, and the bytes that it puts out
abbrev pub Answer : Type 0
Answer = StepAnswer × List ℕ

-- the oldest reply of those that are left
abbrev pub first_reply : List RMsg → Answer
first_reply [] = (NoReply, [])
first_reply (reply ∷ rest) = (Reply, r_frame reply)

-- a question is put out with its number and its conversation
abbrev pub asks : Question → Need → Answer
asks question (Exchange request shape) = (Ask question.call question.conv shape, request)
asks question (Key template) = (NoAsk, [])
asks question (Offers template) = (NoAsk, [])
asks question (Pick templates) = (NoAsk, [])
asks question Nothing = (NoAsk, [])

-- what is due is put out: a connection that is to be given up by its conversation
abbrev pub put_out : List Deed → Due → Answer
put_out done NoneDue = (NoAsk, [])
put_out done (DropDue drop) = (DropCall drop.conv, [])
put_out done (QuestionDue question) = asks question (question_of (standing_of done question.conv))

-- what is answered to an event after some deeds
abbrev pub answer_after : List Deed → Event → Answer
answer_after done (Take at) = if is_gone done at then (Gone, []) else first_reply (untaken done at)
answer_after done TakeAsk = if is_halted done then (Stopped, []) else put_out done (due done)
answer_after done event = (Done, [])

-- what the agent answers to an event after a history
abbrev pub answer : History → Event → Answer
answer history event = answer_after (deeds history) event

-- whether a step answered that a reply was put out
abbrev pub is_reply : StepAnswer → Bool
is_reply Reply = true
is_reply other = false
