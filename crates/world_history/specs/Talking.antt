-- What is recorded of a conversation: the steps that follow on a request that is written and read, on the answer to
-- its question, and on its closing. They are read off the replies that came, the questions, and how the conversation
-- stands as to its end. The rules are this project's; the words of answers are after factotum(4) of the Plan 9
-- manual.
use Rattle.std.specs.Prelude.{ℕ, ◌+◌, List, [], ◌∷◌, ◌++◌, length, drop, nat_eq, Bool, true, false, not, ◌&&◌, ◌||◌, codes, Option, Some, None, is_some, if◌then◌else◌}
use Rattle.std.specs.List.{starts_with}
use Rattle.std.specs.Str.{bytes_eq}
use Rattle.nine.specs.declared.message.RMsg.{RMsg}
use Rattle.nine.specs.declared.message.RBody.{RBody}
use Rattle.nine.specs.declared.message.RBody.TheVariants as r
use Rattle.attr_tuples.specs.declared.attr.Attr.{Attr}
use Rattle.key_lists.specs.CtlLines.{few_of}
use Rattle.roles.specs.Starts.{says}
use Rattle.roles.specs.declared.need.Outcome.{Outcome}
use Rattle.roles.specs.declared.need.Outcome.TheVariants.{Running, Accepted, Finished, Broken}
use Rattle.agent_history.specs.Lines.{cause_text, is_end}
use Rattle.agent_history.specs.declared.event.Event.{Event}
use Rattle.agent_history.specs.Conversations.{outcome_at}
use Rattle.agent_history.specs.Histories.{History, deeds}
use Rattle.wire_histories.specs.declared.step.Step.{Step}
use Rattle.wire_histories.specs.declared.step.Step.TheVariants as s
use Rattle.wire_histories.specs.declared.step.Protocol.{Protocol}
use Rattle.wire_histories.specs.declared.step.Protocol.TheVariants.{P9sk1, P9any, Apop, Cram}
use Rattle.wire_histories.specs.declared.step.Role.{Role}
use Rattle.wire_histories.specs.declared.step.Role.TheVariants.{Client, Server, Speakfor}
use Rattle.world_history.specs.declared.question.Question.{Question}
use Rattle.world_history.specs.Driving.{drive, is_refused, no_word, questions_to, reads, replies_to, writes}

-- ---- what came of an event

-- what comes of an event on a conversation: the replies, its questions, and how it stood as to its end before and
-- stands now
pub record Came : Type 0 where
  pub replies : List RMsg
  pub questions : List Question
  pub before : Option Outcome
  pub now : Option Outcome

abbrev pub outcome_in : ℕ → History → Option Outcome
outcome_in fid history = outcome_at (deeds history) 0 fid

-- what comes of an event on the conversation of a fid
abbrev pub came : ℕ → Event → History → Came
came fid event history = record {
  replies = replies_to event history;
  questions = questions_to event history;
  before = outcome_in fid history;
  now = outcome_in fid (drive event history);
}

-- ---- the words of answers

-- a text begins so
abbrev pub begins : List ℕ → List ℕ → Bool
begins front text = starts_with nat_eq text front

-- an answer to what was given that says that it wasn't taken
unfoldable pub leaves_untaken : List ℕ → Bool
leaves_untaken text =
    begins (codes "phase ") text || (bytes_eq text (codes "protocol not started")
    || (begins (codes "toosmall ") text || (bytes_eq text (codes "error message too long")
    || (begins (codes "needkey ") text || bytes_eq text (codes "error confirmation denied")))))

-- what was given was taken: the read waits for its answer, or the answer doesn't say otherwise
abbrev pub is_taken_by : RBody → Bool
is_taken_by (r.Read text) = not (leaves_untaken text)
is_taken_by body = false

abbrev pub is_taken : List RMsg → Bool
is_taken [] = true
is_taken (m ∷ more) = is_taken_by m.body

-- ---- steps

-- questions, from this message on
abbrev pub ask_steps : ℕ → List ℕ → List Question → List Step
ask_steps number conv [] = []
ask_steps number conv (q ∷ more) = s.Ask number conv q.bytes ∷ ask_steps (number + 1) conv more

-- it came to its end
abbrev pub end_of : List ℕ → Option Outcome → List Step
end_of conv None = []
end_of conv (Some Running) = []
end_of conv (Some Finished) = []
end_of conv (Some (Accepted info)) = s.Accept conv info.cuid info.suid ∷ []
end_of conv (Some (Broken cause)) = s.Fail conv (cause_text cause) ∷ []

abbrev pub end_steps : List ℕ → Option Outcome → Option Outcome → List Step
end_steps conv before now = if is_end before then [] else end_of conv now

-- it broke
abbrev pub is_broken : Option Outcome → Bool
is_broken (Some (Broken cause)) = true
is_broken other = false

-- it broke by this
abbrev pub breaks : Option Outcome → Option Outcome → Bool
breaks before now = not (is_end before) && is_broken now

-- an answer: what is ok is nothing by itself, or the message behind it; any other is recorded where it isn't what
-- tells that the conversation broke
unfoldable pub answer_steps : ℕ → List ℕ → Bool → List ℕ → List Step
answer_steps number conv broke text =
    if bytes_eq text (codes "ok") then []
    else if begins (codes "ok ") text then s.Out number conv (drop 3 text) ∷ []
    else if broke then []
    else s.Reply conv text ∷ []

-- replies, from this message on
abbrev pub reply_steps : ℕ → List ℕ → Bool → RBody → List Step
reply_steps number conv broke (r.Read text) = answer_steps number conv broke text
reply_steps number conv broke (r.Error text) = s.Reply conv text ∷ []
reply_steps number conv broke body = []

abbrev pub is_out : List Step → ℕ
is_out (s.Out number conv bytes ∷ more) = 1
is_out steps = 0

abbrev pub all_reply_steps : ℕ → List ℕ → Bool → List RMsg → List Step
all_reply_steps number conv broke [] = []
all_reply_steps number conv broke (m ∷ more) =
    let steps = reply_steps number conv broke m.body in
    steps ++ all_reply_steps (number + is_out steps) conv broke more

-- what follows on an event, from this message on: its questions, its end, and the answers
abbrev pub following : ℕ → List ℕ → Came → List Step
following number conv c =
    ask_steps number conv c.questions
    ++ end_steps conv c.before c.now
    ++ all_reply_steps (number + length c.questions) conv (breaks c.before c.now) c.replies

-- ---- starts

-- the tuple of a start
abbrev pub tuple_in : Option (List Attr) → List Attr
tuple_in None = []
tuple_in (Some tuple) = tuple

-- the protocol and the role that it names
abbrev pub protocol_named : List Attr → Protocol
protocol_named tuple =
    if says (codes "proto") (codes "p9any") tuple then P9any
    else if says (codes "proto") (codes "apop") tuple then Apop
    else if says (codes "proto") (codes "cram") tuple then Cram
    else P9sk1

abbrev pub role_named : List Attr → Role
role_named tuple =
    if says (codes "role") (codes "speakfor") tuple then Speakfor
    else if says (codes "role") (codes "server") tuple then Server
    else Client

unfoldable pub start_step : List ℕ → List ℕ → List ℕ → Step
start_step conv word text =
    let tuple = tuple_in (few_of text) in s.Start conv (protocol_named tuple) (role_named tuple) word

-- ---- requests

-- what is asked of a conversation
pub data Asks : Type 0 where
  -- that it starts by a tuple, with a random word
  starts : (word tuple : List ℕ) → Asks
  -- a message
  gets : Asks
  -- that it takes one
  gives : (bytes : List ℕ) → Asks

-- the request that is written, and the random word of the read that follows
abbrev pub request_text : Asks → List ℕ
request_text (starts word tuple) = codes "start " ++ tuple
request_text gets = codes "read"
request_text (gives bytes) = codes "write " ++ bytes

abbrev pub word_of : Asks → List ℕ
word_of (starts word tuple) = word
word_of gets = no_word
word_of (gives bytes) = no_word

-- the step of the request itself: the conversation has started, or took the bytes
abbrev pub own_steps : List ℕ → Asks → Came → List Step
own_steps conv (starts word tuple) c =
    if not (is_some c.before) && is_some c.now then start_step conv word tuple ∷ []
    else []
own_steps conv gets c = []
own_steps conv (gives bytes) c = if is_taken c.replies then s.In conv bytes ∷ [] else []

-- the steps of a request that was read
abbrev pub read_steps : ℕ → List ℕ → Asks → Came → List Step
read_steps number conv asks c = own_steps conv asks c ++ following number conv c

-- a write that isn't refused is read
abbrev pub then_read : ℕ → List ℕ → List RMsg → History → History
then_read fid word replies written = if is_refused replies then written else drive (reads fid word) written

-- the history behind a request: it is written, and read where the write isn't refused
abbrev pub requested : ℕ → Asks → History → History
requested fid asks history =
    let write = writes fid (request_text asks) in
    then_read fid (word_of asks) (replies_to write history) (drive write history)

-- its steps
abbrev pub request_steps : ℕ → List ℕ → ℕ → Asks → History → List Step
request_steps number conv fid asks history =
    let write = writes fid (request_text asks) in
    if is_refused (replies_to write history) then all_reply_steps number conv false (replies_to write history)
    else read_steps number conv asks (came fid (reads fid (word_of asks)) (drive write history))

-- its questions
abbrev pub request_questions : ℕ → Asks → History → List Question
request_questions fid asks history =
    let write = writes fid (request_text asks) in
    if is_refused (replies_to write history) then [] else questions_to (reads fid (word_of asks)) (drive write history)
