-- The messages of p9sk1 as its roles make and open them (authsrv(6) of the Plan 9 manual).
use Rattle.std.specs.Prelude.{ℕ, List, take, drop, Result, Ok, Err}
use Rattle.sealing.specs.Sealing.{opened, sealed}
use Rattle.sealing.specs.Authenticator.{authenticator_of, authenticator_text}
use Rattle.sealing.specs.Fields.{field}
use Rattle.sealing.specs.Ticket.{ticket_of}
use Rattle.sealing.specs.declared.authenticator.Authenticator.{Authenticator}
use Rattle.sealing.specs.declared.fault.FieldFault.{FieldFault}
use Rattle.sealing.specs.declared.request.TicketReq.{TicketReq}
use Rattle.sealing.specs.declared.ticket.Ticket.{Ticket}
use Rattle.roles.specs.declared.answer.Cause.{Cause}
use Rattle.roles.specs.declared.key.SkKey.{SkKey}
use Rattle.roles.specs.Talks.{Verdict, breaks}

-- what sealed bytes open to under a key: a ticket, or none
abbrev pub ticket_under : SkKey → List ℕ → Result Ticket FieldFault
ticket_under key bytes = ticket_of (opened key.des.0 bytes)

-- what follows from the ticket, where there is one, and else the cause
abbrev pub with_ticket : {S : Type 0} → Cause → Result Ticket FieldFault → (Ticket → Verdict S) → Verdict S
with_ticket cause (Ok ticket) next = next ticket
with_ticket cause (Err fault) next = breaks cause

-- the authenticator that 13 bytes open to under the key of a ticket
abbrev pub proof_under : Ticket → List ℕ → Authenticator
proof_under ticket bytes = authenticator_of (opened ticket.key.0 bytes)

-- an authenticator of this kind for a challenge, sealed under the key of a ticket
abbrev pub proof_for : ℕ → List ℕ → Ticket → List ℕ
proof_for kind challenge ticket =
    sealed ticket.key.0 (authenticator_text (record { num = kind; chal = challenge; id = 0 }))

-- what follows from the request that bytes are, where they are one, and else the cause
abbrev pub with_request : {S : Type 0} → Cause → Result TicketReq FieldFault → (TicketReq → Verdict S) → Verdict S
with_request cause (Ok request) next = next request
with_request cause (Err fault) next = breaks cause

-- the challenge in the bytes of a request
abbrev pub challenge_in : List ℕ → List ℕ
challenge_in request = field 77 8 request

-- a sealed ticket at the front of a message, and what stands behind it
abbrev pub ticket_part : List ℕ → List ℕ
ticket_part bytes = take 72 bytes

abbrev pub rest_part : List ℕ → List ℕ
rest_part bytes = drop 72 bytes
