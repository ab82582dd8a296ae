-- What a conversation meets when the authentication server is done with its question.
use Rattle.std.specs.Prelude.{Bool, true, false}
use Rattle.talks.specs.Calls.{Call, Heard, Unheard, Roomless}
use Rattle.agent_talks.specs.declared.server.Said.{Said}
use Rattle.agent_talks.specs.declared.server.Said.TheVariants as s

abbrev pub call_of : Said → Call
call_of (s.Answer bytes) = Heard bytes.now
call_of s.Nothing = Unheard
call_of s.NoRoom = Roomless

-- only an answer may take memory
abbrev pub is_answer : Said → Bool
is_answer (s.Answer bytes) = true
is_answer s.Nothing = false
is_answer s.NoRoom = false
