-- A network after some acts: the history of each agent that a node of its has or had, the requests of each session of
-- the authentication server, and the record, which is the list of the steps that the acts cause, in order. Messages are
-- numbered from 0 in the order in which they are recorded.
use Rattle.std.specs.Prelude.{ℕ, List, [], ◌∷◌, ◌++◌, length, Bool, true, false, Option, Some, None, if◌then◌else◌}
use Rattle.std.specs.List.{filter_map}
use Rattle.std.specs.Str.{bytes_eq}
use Rattle.auth_tables.specs.Lines.{counted}
use Rattle.auth_tables.specs.Keys.{key_of, keys_in}
use Rattle.auth_tables.specs.Speaks.{may_speak, names_in, speaks_in}
use Rattle.auth_server.specs.Requests.{asked_so, is_served, kind_of}
use Rattle.auth_server.specs.Answers.{Knowledge, Posed, answer_in, is_over_in, posed}
use Rattle.agent_history.specs.Histories.{History}
use Rattle.wire_histories.specs.declared.step.Step.{Step}
use Rattle.wire_histories.specs.declared.step.Step.TheVariants as s
use Rattle.world_history.specs.declared.question.Question.{Question}
use Rattle.world_history.specs.Acts.{Act, Talk, Reloaded, Made, Restarted, Told, Opened, Started, Got, Given, Answered, Unanswered, Asked, Closed, agent_of, domain, key_lines, least_fid, fids_on, speak_lines, talk_of, talks}
use Rattle.world_history.specs.Driving.{new_node}
use Rattle.world_history.specs.Talking.{starts, gets, gives}
use Rattle.world_history.specs.Turns.{Turn, tells, lets_open, asks, hears, misses, closes, after, turn_questions, turn_steps}

-- ---- agents

-- what an act does to an agent, and which agent that is
pub record Done : Type 0 where
  pub agent : List ℕ
  pub turn : Turn

-- it is done to the agent that a node has now
abbrev pub done_to : List Act → List ℕ → Turn → Option Done
done_to before node turn = Some (record { agent = agent_of before node; turn = turn })

-- where it concerns a conversation that is open
abbrev pub on_talk : List Act → Option Talk → (ℕ → Turn) → Option Done
on_talk before None turn = None
on_talk before (Some talk) turn = done_to before talk.node (turn talk.fid)

-- the fid of a conversation that is opened now
abbrev pub fid_for : List Act → List ℕ → ℕ
fid_for acts node = least_fid (fids_on node (talks acts))

-- what an act behind others does to an agent, if it does something
abbrev pub done_by : List Act → Act → Option Done
done_by before (Told node line) = done_to before node (tells node line)
done_by before (Opened node conv) = done_to before node (lets_open (fid_for before node))
done_by before (Started conv word tuple) =
    on_talk before (talk_of before conv) (λ fid. asks conv fid (starts word tuple))
done_by before (Got conv) = on_talk before (talk_of before conv) (λ fid. asks conv fid gets)
done_by before (Given conv bytes) = on_talk before (talk_of before conv) (λ fid. asks conv fid (gives bytes))
done_by before (Answered conv bytes call) = on_talk before (talk_of before conv) (λ fid. hears conv fid call bytes)
done_by before (Unanswered conv call) = on_talk before (talk_of before conv) (λ fid. misses conv fid call)
done_by before (Closed conv) = on_talk before (talk_of before conv) (λ fid. closes conv fid)
done_by before act = None

-- the history of an agent behind what was done
abbrev pub history_by : Option Done → List ℕ → History → History
history_by None agent h = h
history_by (Some done) agent h = if bytes_eq done.agent agent then after done.turn h else h

-- the history of an agent, which goes no further once another took its place
abbrev pub history : List Act → List ℕ → History
history [] agent = []
history (Made node ∷ before) agent =
    if bytes_eq (agent_of before node) agent then new_node else history before agent
history (Restarted node ∷ before) agent =
    if bytes_eq (agent_of (Restarted node ∷ before) node) agent then new_node else history before agent
history (act ∷ before) agent = history_by (done_by before act) agent (history before agent)

-- ---- questions

-- the number of the last of some questions, or this
abbrev pub last_call : List Question → Option ℕ → Option ℕ
last_call [] call = call
last_call (q ∷ more) call = last_call more (Some q.call)

-- the question of a conversation that is outstanding behind what was done: what it is asked may raise one, which then
-- is the last; an answer, and that there is none, end it
abbrev pub call_behind : List ℕ → Turn → List Question → Option ℕ → Option ℕ
call_behind conv (asks name fid what) raised call = if bytes_eq name conv then last_call raised call else call
call_behind conv (hears name fid number bytes) raised call = if bytes_eq name conv then last_call raised None else call
call_behind conv (misses name fid number) raised call = if bytes_eq name conv then last_call raised None else call
call_behind conv turn raised call = call

abbrev pub call_by : List Act → List ℕ → Option Done → Option ℕ → Option ℕ
call_by before conv None call = call
call_by before conv (Some done) call =
    call_behind conv done.turn (turn_questions done.turn (history before done.agent)) call

-- the number of the question of a conversation that is outstanding, if one is
abbrev pub outstanding : List Act → List ℕ → Option ℕ
outstanding [] conv = None
outstanding (act ∷ before) conv = call_by before conv (done_by before act) (outstanding before conv)

-- ---- the authentication server

-- what it knows: its domain, and what the lines of its newest tables give
abbrev pub known : List Act → Knowledge
known acts = record {
  dom = domain acts;
  key = λ user. key_of user (keys_in (counted (key_lines acts)));
  speaks = λ host user. may_speak (names_in (speaks_in (counted (speak_lines acts))) host) host user;
}

-- a request to it, by what it knows now
abbrev pub put_to : List Act → List ℕ → List (List ℕ) → Posed
put_to acts request words = posed (known acts) (asked_so request words)

-- the requests that a session answered, the newest first, each with what was known when it came
abbrev pub requests : List Act → List ℕ → List Posed
requests [] session = []
requests (Asked name request words ∷ before) session =
    if bytes_eq name session
    then (if is_served (kind_of request) then put_to before request words ∷ requests before session
    else requests before session)
    else requests before session
requests (act ∷ before) session = requests before session

-- it was given a request of a kind that isn't served, which ended it
abbrev pub was_misasked : List Act → List ℕ → Bool
was_misasked [] session = false
was_misasked (Asked name request words ∷ before) session =
    if bytes_eq name session then (if is_served (kind_of request) then was_misasked before session else true)
    else was_misasked before session
was_misasked (act ∷ before) session = was_misasked before session

-- it has ended: so, or by too many wrong answers
abbrev pub has_ended : List Act → List ℕ → Bool
has_ended acts session = if was_misasked acts session then true else is_over_in (requests acts session)

-- the steps of a request to a session that answered these before, from this message on
unfoldable pub session_steps : ℕ → List ℕ → List Posed → Posed → List Step
session_steps number session before p =
    s.AsGot session p.asked.request p.asked.words
    ∷ (if is_served (kind_of p.asked.request) then s.AsGave number session (answer_in before p)
    ∷ (if is_over_in (p ∷ before) then s.AsEnd session ∷ [] else [])
    else s.AsEnd session ∷ [])

-- ---- the record

-- the steps of what was done to an agent
abbrev pub steps_to : ℕ → List Act → Option Done → List Step
steps_to number before None = []
steps_to number before (Some done) = turn_steps number done.turn (history before done.agent)

-- the steps of an act behind others, from this message on
abbrev pub steps_by : ℕ → List Act → Act → List Step
steps_by number before (Asked session request words) =
    session_steps number session (requests before session) (put_to before request words)
steps_by number before Reloaded = s.Reload ∷ []
steps_by number before (Restarted node) = s.Restart node ∷ []
steps_by number before act = steps_to number before (done_by before act)

-- the message that a step records, if it does
abbrev pub message_in : Step → Option (List ℕ)
message_in (s.Out number conv bytes) = Some bytes
message_in (s.Ask number conv bytes) = Some bytes
message_in (s.AsGave number session bytes) = Some bytes
message_in step = None

-- the messages of a record
abbrev pub messages_in : List Step → List (List ℕ)
messages_in steps = filter_map message_in steps

-- the record
abbrev pub steps : List Act → List Step
steps [] = []
steps (act ∷ before) = steps before ++ steps_by (length (messages_in (steps before))) before act

-- the messages that are recorded
abbrev pub messages : List Act → List (List ℕ)
messages acts = messages_in (steps acts)
