-- What the record tells of a request of a conversation, by how the conversation stood before and stands now: the same
-- rules as those by which steps are read off replies, in the words of a conversation's acts. The newest act comes
-- first.
use Rattle.std.specs.Prelude.{◌≡◌, ℕ, List, [], ◌∷◌, ◌++◌, drop, Bool, true, false, not, ◌&&◌, codes, Option, Some, None, is_some, if◌then◌else◌}
use Rattle.std.specs.Str.{bytes_eq}
use Rattle.key_lists.specs.CtlLines.{few_of}
use Rattle.roles.specs.declared.need.Need.{Need}
use Rattle.roles.specs.declared.need.Need.TheVariants.{Nothing}
use Rattle.roles.specs.declared.need.Outcome.{Outcome}
use Rattle.roles.specs.Starts.{start_with}
use Rattle.roles.specs.Talks.{Call as Move}
use Rattle.talks.specs.Protocols.{needs}
use Rattle.talks.specs.RpcAnswers.{answer_text}
use Rattle.talks.specs.Requests.{RpcRequest}
use Rattle.talks.specs.Requests as rpc
use Rattle.talks.specs.declared.said.Said.{Said}
use Rattle.talks.specs.Calls.{Found, AsksConsent, AsksKey}
use Rattle.talks.specs.Lines.{is_end}
use Rattle.talks.specs.Standings.{Begun, Phase, Standing, Waiting, Seeking, OnServer, Kept, carried_out, is_for, made, need_in, outcome_of, sought}
use Rattle.wire_histories.specs.Histories.{Act, gave, took}
use Rattle.wire_histories.specs.Conversations.{asked_now, ended_as, is_asked, started_by, talk_acts}
use Rattle.world_history.specs.Talking.{begins, leaves_untaken, tuple_in}

-- all that a conversation's talk leaves; nothing before it has started
abbrev pub acts_in : Option Begun → List Act
acts_in None = []
acts_in (Some b) = talk_acts b.start b.moves

-- ---- what is recorded

-- an answer: what is ok is nothing by itself, or the message behind it
abbrev pub told_acts : List ℕ → List Act
told_acts text =
    if bytes_eq text (codes "ok") then []
    else if begins (codes "ok ") text then gave (drop 3 text) ∷ []
    else []

abbrev pub answer_acts : Phase → List Act
answer_acts (Kept answer) = told_acts (answer_text answer)
answer_acts phase = []

-- a question that is raised
abbrev pub question_acts : Phase → Need → List Act
question_acts OnServer need = asked_now need
question_acts phase need = []

-- an end that it has come to
abbrev pub end_in : Option Outcome → List Act
end_in None = []
end_in (Some outcome) = ended_as outcome

abbrev pub end_acts : Option Outcome → Option Outcome → List Act
end_acts before now = if is_end before then [] else end_in now

-- what was given was taken: the read waits for its answer, or the answer doesn't say otherwise
abbrev pub is_taken_in : Phase → Bool
is_taken_in (Kept answer) = not (leaves_untaken (answer_text answer))
is_taken_in phase = true

-- the request itself: the conversation has started, or took the bytes
abbrev pub own_acts : List ℕ → RpcRequest → Standing → Standing → List Act
own_acts word (rpc.starts text) before now =
    if not (is_some (outcome_of before)) && is_some (outcome_of now)
    then started_by (start_with (tuple_in (few_of text)) word) ∷ []
    else []
own_acts word (rpc.writes message) before now = if is_taken_in now.phase then took message ∷ [] else []
own_acts word request before now = []

-- all of it
abbrev pub request_acts : List ℕ → RpcRequest → Standing → Standing → List Act
request_acts word request before now =
    answer_acts now.phase
    ++ (end_acts (outcome_of before) (outcome_of now)
    ++ (question_acts now.phase (need_in now.begun)
    ++ own_acts word request before now))

-- a conversation that rests, or has a request that isn't carried out
abbrev pub idle : Option Begun → Phase → Said → Standing
idle begun phase said = record { begun = begun; phase = phase; starting = false; said = said }

-- what is recorded of an answer of the authentication server, or of its absence
abbrev pub answer_recorded : Act → Standing → Standing → List Act
answer_recorded act before now =
    answer_acts now.phase
    ++ (end_acts (outcome_of before) (outcome_of now)
    ++ (question_acts now.phase (need_in now.begun)
    ++ act ∷ []))

-- a conversation that asked the authentication server
abbrev pub on_server : Begun → Bool → Said → Standing
on_server b starting said = record { begun = Some b; phase = OnServer; starting = starting; said = said }

-- ---- searches that ask nobody

-- nobody is asked
abbrev pub asks_nobody : Found → Bool
asks_nobody (AsksConsent key) = false
asks_nobody AsksKey = false
asks_nobody found = true

-- searches one after the other, up to where nothing is searched for
pub data Searches : Standing → Standing → Type 0 where
  -- nothing is
  rests : {now : Standing} → (now.phase ≡ Seeking → ⊥) → Searches now now
  -- this is found, which is what is needed
  finds : {before : Standing} {now : Standing} (came : Found) → before.phase ≡ Seeking
      → is_for (need_in before.begun) came ≡ true → asks_nobody came ≡ true → Searches (sought before came) now
      → Searches before now

-- ---- the laws

-- a request that a script makes
abbrev pub is_driven : RpcRequest → Bool
is_driven (rpc.starts text) = true
is_driven rpc.reads = true
is_driven (rpc.writes message) = true
is_driven request = false

-- it leaves in the talk of its conversation what is recorded of it
abbrev pub RequestsLeave : Type 0
RequestsLeave = (begun : Option Begun) (said : Said) (word : List ℕ) (request : RpcRequest) (now : Standing)
    → need_in begun ≡ Nothing → is_driven request ≡ true
    → Searches (carried_out (idle begun (Waiting request) said) word request) now
    → acts_in now.begun ≡ request_acts word request (idle begun (Waiting request) said) now ++ acts_in begun

-- so do an answer of the authentication server to a question, and its absence
abbrev pub AnswersLeave : Move → Act → Type 0
AnswersLeave call act = (b : Begun) (starting : Bool) (said : Said) → is_asked (needs b.start b.moves) ≡ true
    → acts_in (made (on_server b starting said) call (Some b)).begun
    ≡ answer_recorded act (on_server b starting said) (made (on_server b starting said) call (Some b))
    ++ acts_in (Some b)
