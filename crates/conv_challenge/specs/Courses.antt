-- What a conversation's calls come to, one after the other, for every list of calls. A stage's call that isn't its next
-- move is told which call is, or that something is needed first, and changes nothing.
use Rattle.std.specs.Prelude.{ℕ, List, [], ◌∷◌, Bool, true, false, None}
use Rattle.wire_base.specs.declared.shape.Shape.TheVariants.{Challenge, Vouch}
use Rattle.roles.specs.declared.answer.Cause.TheVariants.{NoServer, NoRoom, BadKey}
use Rattle.roles.specs.declared.answer.Gave.{Gave}
use Rattle.roles.specs.declared.answer.Gave.TheVariants as g
use Rattle.roles.specs.declared.answer.PhaseWord.TheVariants.{AwaitsRead, AwaitsWrite}
use Rattle.roles.specs.declared.need.Need.{Need}
use Rattle.roles.specs.declared.need.Need.TheVariants.{Nothing, Key, Exchange}
use Rattle.roles.specs.declared.need.Outcome.{Outcome}
use Rattle.roles.specs.declared.need.Outcome.TheVariants.{Running, Finished}
use Rattle.roles.specs.Starts.{Start}
use Rattle.roles.specs.Talks.{Call, Progress, Verdict, give, get, found, heard, unheard, roomless, undone, goes, stays, breaks}
use Rattle.roles.specs.Tickets.{ticket_under, ticket_part}
use Rattle.roles.specs.Courses.{accepted, answer_of, bytes_of, need_unless, outcome_unless, then_course, unless_broken}
use Rattle.conv_challenge.specs.declared.stage.Side.{Side}
use Rattle.conv_challenge.specs.declared.stage.Side.TheVariants.{Client, Server}
use Rattle.conv_challenge.specs.declared.stage.Stage.{Stage}
use Rattle.conv_challenge.specs.declared.stage.Stage.TheVariants.{ClientFirst, ClientKey, ClientSecond, ClientDone, ServerKey, ServerAsk, ServerFirst, ServerSecond, ServerThird, ServerVouch, ServerDone}
use Rattle.conv_challenge.specs.Starts.{asked_by_client, asked_by_server, side_of}
use Rattle.conv_challenge.specs.Clients.{challenge_given, digits_got, password_came}
use Rattle.conv_challenge.specs.Servers.{challenge_came, challenge_got, challenge_question, digits_came, user_came, vouch_came, vouch_question}

-- ---- the moves

-- what a stage answers to a call that isn't its move; only a server learns who the other side is
abbrev pub idle : Stage → Gave
idle ClientFirst = g.Phase AwaitsWrite
idle (ClientKey challenge) = g.Wait
idle (ClientSecond challenge password) = g.Phase AwaitsRead
idle (ClientDone challenge password) = g.Done false
idle ServerKey = g.Wait
idle (ServerAsk key) = g.Wait
idle (ServerFirst key challenge) = g.Phase AwaitsRead
idle (ServerSecond key challenge) = g.Phase AwaitsWrite
idle (ServerThird key challenge user) = g.Phase AwaitsWrite
idle (ServerVouch key challenge user digits) = g.Wait
idle (ServerDone key challenge user digits vouch) = g.Done true

abbrev pub move : Start → Stage → Call → Verdict Stage
-- client, 1: the challenge is given, and a key found for it
move start ClientFirst (give b) = challenge_given b
move start (ClientKey challenge) (found key password) = password_came challenge password
move start (ClientKey challenge) undone = goes ClientFirst g.Ok []
-- client, 2: the digits are got
move start (ClientSecond challenge password) get = digits_got start challenge password
-- server: a key is found, and the authentication server asked for a challenge
move start ServerKey (found key password) = goes (ServerAsk key) g.Wait []
move start (ServerAsk key) (heard answer) = challenge_came key answer
move start (ServerAsk key) unheard = breaks NoServer
move start (ServerAsk key) roomless = breaks NoRoom
-- server, 1: the challenge is got
move start (ServerFirst key challenge) get = challenge_got key challenge
-- server, 2: the user's name is given
move start (ServerSecond key challenge) (give b) = user_came key challenge b
-- server, 3: his digits are given, and the authentication server asked to vouch for him
move start (ServerThird key challenge user) (give b) = digits_came key challenge user b
move start (ServerVouch key challenge user digits) (heard answer) = vouch_came start key challenge user digits answer
move start (ServerVouch key challenge user digits) unheard = breaks NoServer
move start (ServerVouch key challenge user digits) roomless = breaks NoRoom
-- any other call
move start stage _ = stays (idle stage)

-- ---- the course of a talk

abbrev pub verdict : Start → Progress Stage → Call → Verdict Stage
verdict start p call = unless_broken p.broken (move start p.stage call)

-- before any call
abbrev pub first_stage : Side → Stage
first_stage Client = ClientFirst
first_stage Server = ServerKey

abbrev pub begun : Start → Progress Stage
begun start = record { stage = first_stage (side_of start.template); broken = None }

-- how far the calls of a talk have brought it
abbrev pub course : Start → List Call → Progress Stage
course start [] = begun start
course start (call ∷ before) = then_course (course start before) (verdict start (course start before) call)

-- ---- what is told

-- what a call is answered after a talk, and the bytes that are got by it
abbrev pub answer_after : Start → List Call → Call → Gave
answer_after start talk call = answer_of (verdict start (course start talk) call)

abbrev pub puts_after : Start → List Call → Call → List ℕ
puts_after start talk call = bytes_of (verdict start (course start talk) call)

-- ---- what is needed

abbrev pub need_of : Start → Stage → Need
need_of start (ClientKey challenge) = Key (asked_by_client start)
need_of start ServerKey = Key (asked_by_server start)
need_of start (ServerAsk key) = Exchange (challenge_question start key) Challenge
need_of start (ServerVouch key challenge user digits) = Exchange (vouch_question start key user digits) Vouch
need_of start _ = Nothing

abbrev pub need_at : Start → Progress Stage → Need
need_at start p = need_unless p.broken (need_of start p.stage)

abbrev pub need_after : Start → List Call → Need
need_after start talk = need_at start (course start talk)

-- ---- how it ends

-- a client learns nobody's name; a server accepts with the vouch
abbrev pub outcome_of : Stage → Outcome
outcome_of (ClientDone challenge password) = Finished
outcome_of (ServerDone key challenge user digits vouch) = accepted BadKey (ticket_under key (ticket_part vouch))
outcome_of _ = Running

abbrev pub outcome_at : Progress Stage → Outcome
outcome_at p = outcome_unless p.broken (outcome_of p.stage)

abbrev pub outcome_after : Start → List Call → Outcome
outcome_after start talk = outcome_at (course start talk)

-- the last move was made
abbrev pub is_last : Stage → Bool
is_last (ClientDone challenge password) = true
is_last (ServerDone key challenge user digits vouch) = true
is_last _ = false

abbrev pub ended_after : Start → List Call → Bool
ended_after start talk = is_last (course start talk).stage
