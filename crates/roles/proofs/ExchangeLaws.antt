-- Where the authentication server is asked, nothing is needed once that is done with: it answered, or wasn't reached, or
-- there was no memory for its answer. Of the last two the conversation tells which it was.
use Rattle.std.proofs.Common.{◌≡◌, ℕ, List, [], ◌∷◌, Bool, true, false, Option, Some, None, Result, Ok, Err, drop, if◌then◌else◌, refl, ap, ◌∙◌}
use Rattle.wire_base.specs.Rules.{Rule, first_told}
use Rattle.sealing.specs.Request.{request_of}
use Rattle.sealing.specs.declared.fault.FieldFault.{FieldFault}
use Rattle.sealing.specs.declared.request.TicketReq.{TicketReq}
use Rattle.sealing.specs.declared.ticket.Ticket.{Ticket}
use Rattle.roles.specs.declared.answer.Cause.{Cause}
use Rattle.roles.specs.declared.answer.Cause.TheVariants.{WrongKind, ServerSaidNo, NoServer, NoRoom, BadKey}
use Rattle.roles.specs.declared.answer.Gave.TheVariants as g
use Rattle.roles.specs.declared.key.SkKey.{SkKey}
use Rattle.roles.specs.declared.need.Need.TheVariants.{Nothing}
use Rattle.roles.specs.declared.stage.Stage.{Stage}
use Rattle.roles.specs.declared.stage.Stage.TheVariants.{ClientFirst, ClientSecond, ClientKey, ClientAsk, ClientThird, ClientFourth, ClientDone, ServerKey, ServerFirst, ServerSecond, ServerThird, ServerFourth, ServerDone}
use Rattle.roles.specs.Answers.{IsExchange}
use Rattle.roles.specs.Starts.{Start}
use Rattle.roles.specs.Talks.{Call, Progress, Verdict, heard, unheard, roomless, goes, breaks, tested, unless_told}
use Rattle.roles.specs.Tickets.{ticket_part, ticket_under, with_ticket}
use Rattle.roles.specs.Clients.{answer_came, grants_tickets, is_refusal, ticket_tests, tickets_came}
use Rattle.roles.specs.Courses.{answer_after, answer_of, course, key_need, need_after, need_at, then_course, verdict}

-- ---- where it is asked

-- a client that isn't broken has its key, and asks
abbrev asking : List ℕ → SkKey → Progress Stage
asking request key = record { stage = ClientAsk request key; broken = None }

abbrev Asks : Progress Stage → Type 0
Asks p = (request : List ℕ) × ((key : SkKey) × (p ≡ asking request key))

-- a key is no answer of the authentication server
no_exchange_asked : (start : Start) (request : Result TicketReq FieldFault) → IsExchange (key_need start request) → ⊥
no_exchange_asked start (Ok request) exchange = exchange
no_exchange_asked start (Err fault) exchange = exchange

asks_at : (start : Start) (stage : Stage) (broken : Option Cause) → IsExchange (need_at start (record { stage = stage; broken = broken })) → Asks (record { stage = stage; broken = broken })
asks_at start stage (Some cause) exchange = absurd exchange
asks_at start ClientFirst None exchange = absurd exchange
asks_at start ClientSecond None exchange = absurd exchange
asks_at start (ClientKey request) None exchange = absurd (no_exchange_asked start (request_of request) exchange)
asks_at start (ClientAsk request key) None exchange = (request, (key, refl))
asks_at start (ClientThird request key tickets) None exchange = absurd exchange
asks_at start (ClientFourth request key tickets) None exchange = absurd exchange
asks_at start (ClientDone request key tickets proof) None exchange = absurd exchange
asks_at start ServerKey None exchange = absurd exchange
asks_at start (ServerFirst key) None exchange = absurd exchange
asks_at start (ServerSecond key theirs) None exchange = absurd exchange
asks_at start (ServerThird key theirs) None exchange = absurd exchange
asks_at start (ServerFourth key theirs shown) None exchange = absurd exchange
asks_at start (ServerDone key theirs shown) None exchange = absurd exchange

asks : (start : Start) (talk : List Call) → IsExchange (need_after start talk) → Asks (course start talk)
asks start talk exchange = asks_at start (course start talk).stage (course start talk).broken exchange

-- ---- it answered

-- nothing is needed behind a verdict
abbrev Rests : Start → Progress Stage → Verdict Stage → Type 0
Rests start p v = need_at start (then_course p v) ≡ Nothing

either_rests : (start : Start) (p : Progress Stage) (test : Bool) (v w : Verdict Stage) → Rests start p v → Rests start p w → Rests start p (if test then v else w)
either_rests start p true v w first second = first
either_rests start p false v w first second = second

unless_rests : (start : Start) (p : Progress Stage) (told : Option Cause) (passed : Verdict Stage) → Rests start p passed → Rests start p (unless_told told passed)
unless_rests start p None passed rests = rests
unless_rests start p (Some cause) passed rests = refl

tested_rests : (start : Start) (p : Progress Stage) (tests : List (Rule Cause)) (passed : Verdict Stage) → Rests start p passed → Rests start p (tested tests passed)
tested_rests start p tests passed rests = unless_rests start p (first_told tests) passed rests

ticket_rests : (start : Start) (p : Progress Stage) (cause : Cause) (ticket : Result Ticket FieldFault) (next : Ticket → Verdict Stage) → ((t : Ticket) → Rests start p (next t)) → Rests start p (with_ticket cause ticket next)
ticket_rests start p cause (Ok ticket) next rests = rests ticket
ticket_rests start p cause (Err fault) next rests = refl

tickets_rest : (start : Start) (request : List ℕ) (key : SkKey) (tickets : List ℕ) → Rests start (asking request key) (tickets_came start request key tickets)
tickets_rest start request key tickets =
    ticket_rests start (asking request key) BadKey (ticket_under key (ticket_part tickets)) (λ ticket. tested (ticket_tests start request key ticket) (goes (ClientThird request key tickets) g.Ok []))
    (λ ticket. tested_rests start (asking request key) (ticket_tests start request key ticket) (goes (ClientThird request key tickets) g.Ok []) refl)

answer_rests : (start : Start) (request : List ℕ) (key : SkKey) (answer : List ℕ) → Rests start (asking request key) (answer_came start request key answer)
answer_rests start request key answer =
    either_rests start (asking request key) (is_refusal answer) (breaks ServerSaidNo) (if grants_tickets answer then tickets_came start request key (drop 1 answer) else breaks WrongKind) refl
    (either_rests start (asking request key) (grants_tickets answer) (tickets_came start request key (drop 1 answer)) (breaks WrongKind) (tickets_rest start request key (drop 1 answer)) refl)

pub heard_needs : (start : Start) (talk : List Call) (answer : List ℕ) → IsExchange (need_after start talk) → need_after start (heard answer ∷ talk) ≡ Nothing
heard_needs start talk answer exchange =
    let asked = asks start talk exchange in
    ap (λ (p : Progress Stage). need_at start (then_course p (verdict start p (heard answer)))) asked.1.1 ∙ answer_rests start asked.0 asked.1.0 answer

-- ---- it wasn't reached, or there was no memory

pub unheard_needs : (start : Start) (talk : List Call) → IsExchange (need_after start talk) → need_after start (unheard ∷ talk) ≡ Nothing
unheard_needs start talk exchange = ap (λ (p : Progress Stage). need_at start (then_course p (verdict start p unheard))) (asks start talk exchange).1.1

pub unheard_tells : (start : Start) (talk : List Call) → IsExchange (need_after start talk) → answer_after start talk unheard ≡ g.Refused NoServer
unheard_tells start talk exchange = ap (λ (p : Progress Stage). answer_of (verdict start p unheard)) (asks start talk exchange).1.1

pub roomless_needs : (start : Start) (talk : List Call) → IsExchange (need_after start talk) → need_after start (roomless ∷ talk) ≡ Nothing
roomless_needs start talk exchange = ap (λ (p : Progress Stage). need_at start (then_course p (verdict start p roomless))) (asks start talk exchange).1.1

pub roomless_tells : (start : Start) (talk : List Call) → IsExchange (need_after start talk) → answer_after start talk roomless ≡ g.Refused NoRoom
roomless_tells start talk exchange = ap (λ (p : Progress Stage). answer_of (verdict start p roomless)) (asks start talk exchange).1.1
