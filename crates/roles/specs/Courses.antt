-- What a conversation's calls come to, one after the other, for every list of calls. A stage's call that isn't its next
-- move is told which call is, or that something is needed first, and changes nothing.
use Rattle.std.specs.Prelude.{ℕ, List, [], ◌∷◌, Bool, true, false, Option, Some, None, Result, Ok, Err}
use Rattle.wire_base.specs.declared.name.AuthInfo.{AuthInfo}
use Rattle.wire_base.specs.declared.shape.Shape.TheVariants.{Tickets}
use Rattle.sealing.specs.Keys.{expanded}
use Rattle.sealing.specs.Request.{request_of}
use Rattle.sealing.specs.declared.fault.FieldFault.{FieldFault}
use Rattle.sealing.specs.declared.request.TicketReq.{TicketReq}
use Rattle.sealing.specs.declared.ticket.Ticket.{Ticket}
use Rattle.roles.specs.declared.answer.Cause.{Cause}
use Rattle.roles.specs.declared.answer.Cause.TheVariants.{WrongKind, WrongChallenge, WrongUser, NotOffered, ServerSaidNo, NoServer, NoRoom, BadKey}
use Rattle.roles.specs.declared.answer.Gave.{Gave}
use Rattle.roles.specs.declared.answer.Gave.TheVariants as g
use Rattle.roles.specs.declared.answer.PhaseWord.TheVariants.{AwaitsRead, AwaitsWrite, Broken as IsBroken}
use Rattle.roles.specs.declared.key.SkKey.{SkKey}
use Rattle.roles.specs.declared.need.Need.{Need}
use Rattle.roles.specs.declared.need.Need.TheVariants.{Nothing, Key, Exchange}
use Rattle.roles.specs.declared.need.Outcome.{Outcome}
use Rattle.roles.specs.declared.need.Outcome.TheVariants.{Running, Accepted, Broken}
use Rattle.roles.specs.declared.stage.Role.{Role}
use Rattle.roles.specs.declared.stage.Role.TheVariants.{Client, Server, Speakfor}
use Rattle.roles.specs.declared.stage.Stage.{Stage}
use Rattle.roles.specs.declared.stage.Stage.TheVariants.{ClientFirst, ClientSecond, ClientKey, ClientAsk, ClientThird, ClientFourth, ClientDone, ServerKey, ServerFirst, ServerSecond, ServerThird, ServerFourth, ServerDone}
use Rattle.roles.specs.Starts.{Start, role_of}
use Rattle.roles.specs.Templates.{asked_first, asked_in}
use Rattle.roles.specs.Talks.{Call, Progress, Verdict, give, get, found, heard, unheard, roomless, undone, goes, stays, breaks, sized}
use Rattle.roles.specs.Tickets.{ticket_under, with_request, ticket_part}
use Rattle.roles.specs.Clients.{request_came, question_for, answer_came, tickets_got, proof_came}
use Rattle.roles.specs.Servers.{server_request, shown_came, proof_got}

-- ---- the moves

-- what a stage answers to a call that isn't its move
abbrev pub idle : Stage → Gave
idle ClientFirst = g.Phase AwaitsRead
idle ClientSecond = g.Phase AwaitsWrite
idle (ClientKey request) = g.Wait
idle (ClientAsk request key) = g.Wait
idle (ClientThird request key tickets) = g.Phase AwaitsRead
idle (ClientFourth request key tickets) = g.Phase AwaitsWrite
idle (ClientDone request key tickets proof) = g.Done true
idle ServerKey = g.Wait
idle (ServerFirst key) = g.Phase AwaitsWrite
idle (ServerSecond key theirs) = g.Phase AwaitsRead
idle (ServerThird key theirs) = g.Phase AwaitsWrite
idle (ServerFourth key theirs shown) = g.Phase AwaitsRead
idle (ServerDone key theirs shown) = g.Done true

abbrev pub move : Start → Stage → Call → Verdict Stage
-- client, 1: its challenge is got
move start ClientFirst get = goes ClientSecond g.Ok start.word
-- client, 2: the server's request is given, a key found for it, the authentication server asked
move start ClientSecond (give b) = sized 141 b (request_came start b)
move start (ClientKey request) (found key password) =
    with_request WrongKind (request_of request) (λ _. goes (ClientAsk request key) g.Wait [])
move start (ClientKey request) undone = goes ClientSecond g.Ok []
move start (ClientAsk request key) (heard answer) = answer_came start request key answer
move start (ClientAsk request key) unheard = breaks NoServer
move start (ClientAsk request key) roomless = breaks NoRoom
-- client, 3: the server's ticket and an authenticator are got
move start (ClientThird request key tickets) get = tickets_got request key tickets
-- client, 4: the server's authenticator is given
move start (ClientFourth request key tickets) (give b) = sized 13 b (proof_came start request key tickets b)
-- server: a key is found
move start ServerKey (found key password) = goes (ServerFirst key) g.Ok []
-- server, 1: the client's challenge is given
move start (ServerFirst key) (give b) = sized 8 b (goes (ServerSecond key b) g.Ok [])
-- server, 2: the request is got
move start (ServerSecond key theirs) get = goes (ServerThird key theirs) g.Ok (server_request start key)
-- server, 3: the client's ticket and authenticator are given
move start (ServerThird key theirs) (give b) = sized 85 b (shown_came start key theirs b)
-- server, 4: the server's authenticator is got
move start (ServerFourth key theirs shown) get = proof_got key theirs shown
-- any other call
move start stage _ = stays (idle stage)

-- ---- the course of a talk

-- a broken conversation makes no move
abbrev pub unless_broken : {S : Type 0} → Option Cause → Verdict S → Verdict S
unless_broken None moved = moved
unless_broken (Some cause) moved = stays (g.Phase IsBroken)

abbrev pub verdict : Start → Progress Stage → Call → Verdict Stage
verdict start p call = unless_broken p.broken (move start p.stage call)

-- what a verdict makes of the progress
abbrev pub then_course : {S : Type 0} → Progress S → Verdict S → Progress S
then_course p (goes next answer bytes) = record { stage = next; broken = p.broken }
then_course p (stays answer) = p
then_course p (breaks cause) = record { stage = p.stage; broken = Some cause }

-- before any call
abbrev pub first_stage : Role → Stage
first_stage Client = ClientFirst
first_stage (Speakfor user) = ClientFirst
first_stage Server = ServerKey

abbrev pub begun : Start → Progress Stage
begun start = record { stage = first_stage (role_of start.template); broken = None }

-- how far the calls of a talk have brought it
abbrev pub course : Start → List Call → Progress Stage
course start [] = begun start
course start (call ∷ before) = then_course (course start before) (verdict start (course start before) call)

-- ---- what is told

-- a broken conversation tells the cause
abbrev pub refusal : Cause → Gave
refusal BadKey = g.BadKey
refusal WrongKind = g.Refused WrongKind
refusal WrongChallenge = g.Refused WrongChallenge
refusal WrongUser = g.Refused WrongUser
refusal NotOffered = g.Refused NotOffered
refusal ServerSaidNo = g.Refused ServerSaidNo
refusal NoServer = g.Refused NoServer
refusal NoRoom = g.Refused NoRoom

abbrev pub answer_of : {S : Type 0} → Verdict S → Gave
answer_of (goes next answer bytes) = answer
answer_of (stays answer) = answer
answer_of (breaks cause) = refusal cause

abbrev pub bytes_of : {S : Type 0} → Verdict S → List ℕ
bytes_of (goes next answer bytes) = bytes
bytes_of (stays answer) = []
bytes_of (breaks cause) = []

-- what a call is answered after a talk, and the bytes that are got by it
abbrev pub answer_after : Start → List Call → Call → Gave
answer_after start talk call = answer_of (verdict start (course start talk) call)

abbrev pub puts_after : Start → List Call → Call → List ℕ
puts_after start talk call = bytes_of (verdict start (course start talk) call)

-- ---- what is needed

-- the template in the domain of a request, and the question that a request makes
abbrev pub key_need : Start → Result TicketReq FieldFault → Need
key_need start (Ok request) = Key (asked_in start request.authdom)
key_need start (Err fault) = Nothing

abbrev pub answer_need : Start → SkKey → Result TicketReq FieldFault → Need
answer_need start key (Ok request) = Exchange (question_for (role_of start.template) key request) Tickets
answer_need start key (Err fault) = Nothing

abbrev pub need_of : Start → Stage → Need
need_of start (ClientKey request) = key_need start (request_of request)
need_of start (ClientAsk request key) = answer_need start key (request_of request)
need_of start ServerKey = Key (asked_first start)
need_of start _ = Nothing

-- a broken conversation needs nothing
abbrev pub need_unless : Option Cause → Need → Need
need_unless None need = need
need_unless (Some cause) need = Nothing

abbrev pub need_at : Start → Progress Stage → Need
need_at start p = need_unless p.broken (need_of start p.stage)

abbrev pub need_after : Start → List Call → Need
need_after start talk = need_at start (course start talk)

-- ---- how it ends

-- whom a ticket names, and the secret that both sides make of its key
abbrev pub info_of : Ticket → AuthInfo
info_of ticket = record { cuid = ticket.cuid; suid = ticket.suid; secret = expanded ticket.key.0 }

abbrev pub accepted : Cause → Result Ticket FieldFault → Outcome
accepted cause (Ok ticket) = Accepted (info_of ticket)
accepted cause (Err fault) = Broken cause

-- a client accepts with its last move, a server before it
abbrev pub outcome_of : Stage → Outcome
outcome_of (ClientDone request key tickets proof) = accepted BadKey (ticket_under key (ticket_part tickets))
outcome_of (ServerFourth key theirs shown) = accepted WrongKind (ticket_under key (ticket_part shown))
outcome_of (ServerDone key theirs shown) = accepted WrongKind (ticket_under key (ticket_part shown))
outcome_of _ = Running

abbrev pub outcome_unless : Option Cause → Outcome → Outcome
outcome_unless None outcome = outcome
outcome_unless (Some cause) outcome = Broken cause

abbrev pub outcome_at : Progress Stage → Outcome
outcome_at p = outcome_unless p.broken (outcome_of p.stage)

abbrev pub outcome_after : Start → List Call → Outcome
outcome_after start talk = outcome_at (course start talk)

-- the last move was made
abbrev pub is_last : Stage → Bool
is_last (ClientDone request key tickets proof) = true
is_last (ServerDone key theirs shown) = true
is_last _ = false

abbrev pub ended_after : Start → List Call → Bool
ended_after start talk = is_last (course start talk).stage
