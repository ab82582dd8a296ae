-- How a network drives an agent, by requests on its connection 0, and what the agent puts out: its replies, and its
-- questions for the authentication server. Each event is followed by takes up to the one that finds no reply, and by
-- takes of questions up to the one that finds none; a connection to the authentication server that is to be given up
-- causes nothing. After section 5 of the Plan 9 manual; which fids, tags and counts are used is this project's.
use Rattle.std.specs.Prelude.{ℕ, zero, suc, ◌+◌, List, [], ◌∷◌, ◌++◌, length, replicate, filter, Bool, true, false, not, codes, if◌then◌else◌}
use Rattle.std.specs.List.{list_any}
use Rattle.nine.specs.declared.message.TBody.{TBody}
use Rattle.nine.specs.declared.message.TBody.TheVariants as t
use Rattle.nine.specs.declared.message.RMsg.{RMsg}
use Rattle.nine.specs.declared.message.RBody.{RBody}
use Rattle.nine.specs.declared.message.RBody.TheVariants as r
use Rattle.nine.specs.Messages.{t_frame}
use Rattle.agent_history.specs.declared.event.Event.{Event}
use Rattle.agent_history.specs.declared.event.Event.TheVariants.{Request, Take, TakeAsk}
use Rattle.agent_history.specs.declared.event.StepAnswer.{StepAnswer}
use Rattle.agent_history.specs.declared.event.StepAnswer.TheVariants.{Ask, DropCall}
use Rattle.world_history.specs.declared.question.Question.{Question}
use Rattle.agent_history.specs.Deeds.{Deed}
use Rattle.agent_history.specs.Replies.{untaken}
use Rattle.agent_history.specs.Conversations.{drops, questions}
use Rattle.agent_history.specs.Histories.{Answer, History, answer, deeds, is_reply}

-- ---- what an agent puts out

-- the first of the replies that are left
abbrev pub first_left : List RMsg → List RMsg
first_left [] = []
first_left (reply ∷ rest) = reply ∷ []

-- take, at most so often, up to the take that finds no reply: the history, and the replies
abbrev pub take_up : ℕ → History → History
take_up zero history = history
take_up (suc n) history =
    if is_reply (answer history (Take 0)).0 then take_up n (Take 0 ∷ history)
    else Take 0 ∷ history

abbrev pub taken_up : ℕ → History → List RMsg
taken_up zero history = []
taken_up (suc n) history =
    if is_reply (answer history (Take 0)).0 then first_left (untaken (deeds history) 0) ++ taken_up n (Take 0 ∷ history)
    else []

-- a take for each reply that is left, and the one that finds none
abbrev pub takes_of : History → ℕ
takes_of history = length (untaken (deeds history) 0) + 1

-- the question that a take of questions put out, if it did
abbrev pub question_in : Answer → List Question
question_in (Ask call conv shape, bytes) = record { call = call; bytes = bytes } ∷ []
question_in (other, bytes) = []

-- something was handed out
abbrev pub hands_out : StepAnswer → Bool
hands_out (Ask call conv shape) = true
hands_out (DropCall conv) = true
hands_out other = false

-- take questions, at most so often, up to the take that finds none: the history, and the questions
abbrev pub ask_up : ℕ → History → History
ask_up zero history = history
ask_up (suc n) history =
    if hands_out (answer history TakeAsk).0 then ask_up n (TakeAsk ∷ history)
    else TakeAsk ∷ history

abbrev pub asked_up : ℕ → History → List Question
asked_up zero history = []
asked_up (suc n) history =
    if hands_out (answer history TakeAsk).0 then question_in (answer history TakeAsk) ++ asked_up n (TakeAsk ∷ history)
    else []

-- how much is to be handed out: connections that are to be given up, and questions
abbrev pub left_to_hand : List Deed → ℕ
left_to_hand done = length (drops done) + length (filter (λ q. not q.handed) (questions done))

-- a take for each of these, and the one that finds nothing
abbrev pub asks_of : History → ℕ
asks_of history = left_to_hand (deeds history) + 1

-- ---- an event, and what follows it

-- the history behind the takes that follow an event
abbrev pub all_taken : History → History
all_taken history = take_up (takes_of history) history

-- an event happens
unfoldable pub drive : Event → History → History
drive event history = let taken = all_taken (event ∷ history) in ask_up (asks_of taken) taken

-- the replies that come of it
unfoldable pub replies_to : Event → History → List RMsg
replies_to event history = taken_up (takes_of (event ∷ history)) (event ∷ history)

-- the questions that come of it
unfoldable pub questions_to : Event → History → List Question
questions_to event history = let taken = all_taken (event ∷ history) in asked_up (asks_of taken) taken

-- ---- requests

-- no random word
abbrev pub no_word : List ℕ
no_word = replicate 8 0

-- a request under a tag, with a random word
abbrev pub asking : ℕ → List ℕ → TBody → Event
asking tag word body = Request 0 (t_frame (record { tag = tag; body = body })) word

-- a request under the tag 0
abbrev pub request : TBody → Event
request body = asking 0 no_word body

abbrev pub no_tag : ℕ
no_tag = 65535

abbrev pub no_fid : ℕ
no_fid = 4294967295

-- a mode in which a file is read and written
abbrev pub both_ways : ℕ
both_ways = 2

-- the version is agreed on
abbrev pub agrees : Event
agrees = asking no_tag no_word (t.Version 8216 (codes "9P2000"))

-- 0 names the root
abbrev pub attaches : Event
attaches = request (t.Attach 0 no_fid (codes "world") [])

-- a fid comes to name a file of the agent, and is opened
abbrev pub walks : ℕ → List ℕ → Event
walks fid file = request (t.Walk 0 fid (codes "factotum" ∷ file ∷ []))

abbrev pub opens : ℕ → Event
opens fid = request (t.Open fid both_ways)

-- bytes are written, and read under the tag of the fid, with a random word
abbrev pub writes : ℕ → List ℕ → Event
writes fid bytes = request (t.Write fid 0 bytes)

abbrev pub reads : ℕ → List ℕ → Event
reads fid word = asking fid word (t.Read fid 0 8192)

abbrev pub clunks : ℕ → Event
clunks fid = request (t.Clunk fid)

-- some reply refuses
abbrev pub is_error : RBody → Bool
is_error (r.Error text) = true
is_error body = false

abbrev pub is_refused : List RMsg → Bool
is_refused replies = list_any (λ m. is_error m.body) replies

-- ---- what a node meets

-- a new agent, of which 1 has ctl open
abbrev pub new_node : History
new_node = drive (opens 1) (drive (walks 1 (codes "ctl")) (drive attaches (drive agrees [])))

-- a line is written to its ctl
abbrev pub told : List ℕ → History → History
told line history = drive (writes 1 line) history

-- a fid opens rpc
abbrev pub walked : ℕ → History → History
walked fid history = drive (walks fid (codes "rpc")) history

abbrev pub opened : ℕ → History → History
opened fid history = drive (opens fid) (walked fid history)

-- the agent refuses that
abbrev pub refuses_open : ℕ → History → Bool
refuses_open fid history =
    if is_refused (replies_to (walks fid (codes "rpc")) history) then true
    else is_refused (replies_to (opens fid) (walked fid history))
