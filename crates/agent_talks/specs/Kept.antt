-- What is kept of conversations and of their questions, in the words of the definitions.
use Rattle.std.specs.Prelude.{ℕ, List, ◌==◌, ◌&&◌, filter, find, length, map, not, option_map, Bool, Option}
use Rattle.std.specs.List.{list_any}
use Rattle.agent_history.specs.Conversations.{Question, Speaker}
use Rattle.conversations.specs.declared.conversation.Conversation.{Conversation}
use Rattle.agent_talks.specs.declared.question.Question.{Question as HeldQuestion}
use Rattle.agent_talks.specs.declared.speaker.Speaker.{Speaker as HeldSpeaker}
use Rattle.agent_talks.specs.declared.speaker.Leaving.{Leaving}
use Rattle.agent_talks.specs.declared.speaker.Leaving.TheVariants as l
use Rattle.agent_talks.specs.declared.held.Talks.{Talks}
use Rattle.agent_talks.specs.Numbered.{kept_in}

abbrev pub speaker_of : HeldSpeaker → Speaker
speaker_of s = record { conv = s.conv; conn = s.conn; fid = s.fid }

-- whose conversations end
abbrev pub leaves : Leaving → HeldSpeaker → Bool
leaves (l.Fid conn fid) s = s.conn == conn && s.fid == fid
leaves (l.Connection conn) s = s.conn == conn

abbrev pub question_of : HeldQuestion → Question
question_of q = record { call = q.call; conv = q.conv; handed = q.handed }

abbrev pub speakers_in : Talks → List Speaker
speakers_in t = map speaker_of t.speakers

abbrev pub questions_in : Talks → List Question
questions_in t = map question_of t.questions.items

-- the conversation of a number, if it is kept
abbrev pub kept_at : Talks → ℕ → Option Conversation
kept_at t conv = kept_in t.table conv

-- how many questions weren't handed out yet
abbrev pub unasked : Talks → ℕ
unasked t = length (filter (λ q. not q.handed) (questions_in t))

-- a question of this number stands
abbrev pub is_asked : ℕ → List Question → Bool
is_asked call questions = list_any (λ q. q.call == call) questions

-- the conversation of the first question of a number
abbrev pub asker_of : ℕ → List HeldQuestion → Option ℕ
asker_of call questions = option_map (λ q. q.conv) (find (λ q. q.call == call) questions)
