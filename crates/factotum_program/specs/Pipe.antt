-- One 9P connection over an input and an output, beside a source of words and an authentication server: the history
-- that its frames make, what is written, and what the server is asked. The history is the agent's own; nothing of how
-- the program goes over its input stands here.
use Rattle.std.specs.Prelude.{ℕ, zero, suc, List, [], ◌∷◌, ◌++◌, length, map, Bool, true, false, not, ◌&&◌, if◌then◌else◌}
use Rattle.wire_base.specs.declared.shape.Shape.{Shape}
use Rattle.wire_base.specs.declared.shape.Shape.TheVariants.{Tickets}
use Rattle.wire_streams.specs.declared.dialer.Made.{Made}
use Rattle.wire_streams.specs.declared.dialer.Made.TheVariants.{Exchange, Close}
use Rattle.wire_streams.specs.declared.dialer.Outcome.{Outcome}
use Rattle.wire_streams.specs.declared.dialer.Outcome.TheVariants.{Answered, Unanswered, NoRoom as Roomless}
use Rattle.agent_history.specs.declared.event.Event.{Event}
use Rattle.agent_history.specs.declared.event.Event.TheVariants.{Request, Hang, Answer, NoAnswer, NoRoom, Take, TakeAsk}
use Rattle.agent_history.specs.declared.event.StepAnswer.{StepAnswer}
use Rattle.agent_history.specs.declared.event.StepAnswer.TheVariants.{Ask, DropCall}
use Rattle.agent_history.specs.Conversations.{drops}
use Rattle.agent_history.specs.Replies.{untaken}
use Rattle.agent_history.specs.Histories.{History, deeds, answer, is_reply}

-- the greatest size of a frame
abbrev pub most_frame : ℕ
most_frame = 8216

-- ---- questions for the authentication server, and connections to it that are given up

-- whether a step handed out a question, and its parts
abbrev pub is_ask : StepAnswer → Bool
is_ask (Ask call conv shape) = true
is_ask other = false

-- whether it handed out a connection that is to be given up
abbrev pub is_drop : StepAnswer → Bool
is_drop (DropCall conv) = true
is_drop other = false

abbrev pub call_in : StepAnswer → ℕ
call_in (Ask call conv shape) = call
call_in other = 0

abbrev pub conv_in : StepAnswer → ℕ
conv_in (Ask call conv shape) = conv
conv_in (DropCall conv) = conv
conv_in other = 0

abbrev pub shape_in : StepAnswer → Shape
shape_in (Ask call conv shape) = shape
shape_in other = Tickets

-- the event that tells the agent what the exchange on a question came to
abbrev pub event_of : ℕ → Outcome → Event
event_of call (Answered bytes) = Answer call bytes
event_of call Unanswered = NoAnswer call
event_of call Roomless = NoRoom call

-- the question that is handed out next, asked with this outcome
abbrev pub exchange_next : History → Outcome → Made
exchange_next history outcome =
    let next = answer history TakeAsk in Exchange (conv_in next.0) next.1 (shape_in next.0) outcome

-- and the history once the agent was told
abbrev pub told_next : History → Outcome → History
told_next history outcome = event_of (call_in (answer history TakeAsk).0) outcome ∷ TakeAsk ∷ history

-- What asking comes to: the history, the calls made, and whether the outcomes are as many as the questions.
pub record Asked : Type 0 where
  pub history : History
  pub calls : List Made
  pub met : Bool

abbrev pub none_made : History → Asked
none_made history = record { history = history; calls = []; met = true }

abbrev pub behind_calls : List Made → Asked → Asked
behind_calls calls asked = record { history = asked.history; calls = calls ++ asked.calls; met = asked.met }

abbrev pub behind_call : Made → Asked → Asked
behind_call call asked = record { history = asked.history; calls = call ∷ asked.calls; met = asked.met }

-- the connection that is handed out next is closed
abbrev pub close_next : History → Made
close_next history = Close (conv_in (answer history TakeAsk).0)

-- connections are closed, at most so many, as long as one is handed out
abbrev pub close_while : ℕ → History → Asked
close_while zero history = none_made history
close_while (suc n) history =
    if is_drop (answer history TakeAsk).0 then behind_call (close_next history) (close_while n (TakeAsk ∷ history))
    else none_made history

abbrev pub closed : History → Asked
closed history = close_while (length (drops (deeds history))) history

-- no question is expected then
abbrev pub ended : Bool → Asked → Asked
ended met asked = record { history = TakeAsk ∷ asked.history; calls = asked.calls; met = met }

-- What is due is taken until nothing is: a connection is closed; a question is asked, with the next of these
-- outcomes, and the agent is told.
abbrev pub ask_all : List Outcome → History → Asked
ask_all [] history = ended (not (is_ask (answer (closed history).history TakeAsk).0)) (closed history)
ask_all (outcome ∷ more) history =
    let before = closed history in
    if is_ask (answer before.history TakeAsk).0
    then behind_calls before.calls
    (behind_call (exchange_next before.history outcome) (ask_all more (told_next before.history outcome)))
    else ended false before

-- ---- frames

-- a frame, the word that was drawn for it, and what the exchanges on its questions came to
pub record Turn : Type 0 where
  pub frame : List ℕ
  pub word : List ℕ
  pub heard : List Outcome

-- such a turn by its parts
abbrev pub turn_of : List ℕ → List ℕ → List Outcome → Turn
turn_of frame word heard = record { frame = frame; word = word; heard = heard }

abbrev pub frames_of : List Turn → List (List ℕ)
frames_of turns = map (λ turn. turn.frame) turns

abbrev pub words_of : List Turn → List (List ℕ)
words_of turns = map (λ turn. turn.word) turns

-- take, at most so often, as long as there is a reply
abbrev pub take_while : ℕ → History → History
take_while zero history = history
take_while (suc n) history = if is_reply (answer history (Take 0)).0 then take_while n (Take 0 ∷ history) else history

-- a frame is a request on connection 0, and then the questions are asked
abbrev pub asked_in : History → Turn → Asked
asked_in history turn = ask_all turn.heard (Request 0 turn.frame turn.word ∷ history)

-- and then takes until there is no reply
unfoldable pub after_turn : History → Turn → History
after_turn history turn =
    let asked = (asked_in history turn).history in take_while (length (untaken (deeds asked) 0)) asked

-- the frames in order: the history, the calls made, and whether each frame has as many outcomes as questions
abbrev pub after_turns : History → List Turn → History
after_turns history [] = history
after_turns history (turn ∷ turns) = after_turns (after_turn history turn) turns

abbrev pub calls_from : History → List Turn → List Made
calls_from history [] = []
calls_from history (turn ∷ turns) = (asked_in history turn).calls ++ calls_from (after_turn history turn) turns

abbrev pub all_met_from : History → List Turn → Bool
all_met_from history [] = true
all_met_from history (turn ∷ turns) = (asked_in history turn).met && all_met_from (after_turn history turn) turns

abbrev pub calls_of : List Turn → List Made
calls_of turns = calls_from [] turns

abbrev pub all_met : List Turn → Bool
all_met turns = all_met_from [] turns

-- the history of a pipe: its frames in order, and a hang at the end of its input
abbrev pub pipe : List Turn → History
pipe turns = Hang 0 ∷ after_turns [] turns

-- ---- what is written

-- the replies that the takes of a history put out, in order
abbrev pub text_of : History → List ℕ
text_of [] = []
text_of (Take conn ∷ before) = text_of before ++ (answer before (Take conn)).1
text_of (event ∷ before) = text_of before

-- the replies to these frames
abbrev pub replies_text : List Turn → List ℕ
replies_text turns = text_of (after_turns [] turns)
