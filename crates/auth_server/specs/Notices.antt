-- What a server notes of each request of a session, in the order in which they were answered: what was asked, and
-- what came of it. The definitions are the project's own.
use Rattle.std.specs.Prelude.{◌≡◌, ℕ, List, [], ◌∷◌, ◌++◌, Bool, ◌&&◌, ◌==◌, true, false, Option, None, Some, Result, Ok, Err, is_some, if◌then◌else◌, ◌⊎◌}
use Rattle.sealing.specs.declared.fault.FieldFault.{FieldFault}
use Rattle.sealing.specs.declared.request.TicketReq.{TicketReq}
use Rattle.sealing.specs.Request.{request_of}
use Rattle.wire_base.specs.Kinds.{ticket_request}
use Rattle.wire_streams.specs.Spawning.{Gains}
use Rattle.auth_tables.specs.Keys.{UserKey}
use Rattle.auth_server.specs.Requests.{Asked, Challenge, kind_of}
use Rattle.auth_server.specs.Answers.{Knowledge, Posed, grant, held_in, judged, shared_key, tickets}
use Rattle.auth_server.specs.Serving.{EndsUnder, Moment}
use Rattle.auth_server.specs.declared.session.Verdict.{Verdict}
use Rattle.auth_server.specs.declared.session.Verdict.TheVariants as verdicts
use Rattle.auth_server.specs.declared.serve.AuthEnd.{AuthEnd}
use Rattle.auth_server.specs.declared.serve.AuthEnd.TheVariants.{End, UnknownType, Torn, TooManyWrong, ReadFault, WriteFault, WordFault, Flood, NoMemory}
use Rattle.auth_server.specs.declared.log.Outcome.{Outcome}
use Rattle.auth_server.specs.declared.log.Outcome.TheVariants.{Granted, Refused, Challenged, Vouched, Wrong}
use Rattle.auth_server.specs.declared.log.Notice.{Notice}
use Rattle.auth_server.specs.declared.log.Notice.TheVariants.{Bad, Judged}

-- whether no key of a grant is made up: the host may speak for the user, and the tables know the host's key and the
-- server's
abbrev pub is_granted : Knowledge → TicketReq → Bool
is_granted known r = known.speaks r.hostid r.uid && (is_some (known.key r.hostid) && is_some (known.key r.authid))

abbrev pub outcome_of_ticket : Knowledge → TicketReq → Outcome
outcome_of_ticket known r = if is_granted known r then Granted else Refused

abbrev pub outcome_of_mail : Verdict → Outcome
outcome_of_mail verdicts.First = Challenged
outcome_of_mail verdicts.Right = Vouched
outcome_of_mail verdicts.Wrong = Wrong

-- what came of a request whose fields are well, by the challenge that is held
abbrev pub outcome_of : Knowledge → Asked → Option Challenge → TicketReq → Outcome
outcome_of known asked held r =
    if r.kind == ticket_request then outcome_of_ticket known r
    else outcome_of_mail (judged known asked r held)

-- what is noted of a request, by the challenge that is held
abbrev pub notice_of : Knowledge → Asked → Option Challenge → Result TicketReq FieldFault → Notice
notice_of known asked held (Err fault) = Bad (kind_of asked.request)
notice_of known asked held (Ok r) = Judged r (outcome_of known asked held r)

-- what is noted of a session, the first request first
abbrev pub notices_of : List Posed → List Notice
notices_of [] = []
notices_of (p ∷ before) =
    notices_of before ++ notice_of p.known p.asked (held_in before) (request_of p.asked.request) ∷ []

-- ---- the ends

-- the requests that were judged by an end: those that were answered, and the one whose answer couldn't be written whole
abbrev pub judged_by : (InForce : ℕ → Knowledge → Type 0) (end : AuthEnd) (before now : Moment)
    → EndsUnder InForce end before now → List Posed
judged_by InForce End before now ends = ends.requests
judged_by InForce (UnknownType at kind) before now ends = ends.requests
judged_by InForce (Torn at) before now ends = ends.requests
judged_by InForce TooManyWrong before now ends = ends.requests
judged_by InForce ReadFault before now ends = ends.requests
judged_by InForce WriteFault before now ends = ends.requests
judged_by InForce WordFault before now ends = ends.requests
judged_by InForce Flood before now ends = ends.requests
judged_by InForce NoMemory before now ends = ends.requests

-- a server ended so, and what came of each request that it judged was noted
pub record EndsNoted (InForce : ℕ → Knowledge → Type 0) (end : AuthEnd) (before now : Moment)
    (log later : Option (List Notice)) : Type 0 where
  pub ends : EndsUnder InForce end before now
  pub noted : Gains log later (notices_of (judged_by InForce end before now ends))

-- ---- what a notice of a ticket request says of its tickets

-- the host may speak for the user, and each of the two tickets is under a key of the table
pub record IsUnderKeys (known : Knowledge) (words : List (List ℕ)) (r : TicketReq) : Type 0 where
  pub host : UserKey
  pub server : UserKey
  pub may : known.speaks r.hostid r.uid ≡ true
  pub hosts : known.key r.hostid ≡ Some host
  pub servers : known.key r.authid ≡ Some server
  pub is : grant known words r ≡ tickets r (shared_key words) host.des server.des

-- the host may not speak for the user, or the host or the server has no key
abbrev pub LacksKeys : Knowledge → TicketReq → Type 0
LacksKeys known r = (known.speaks r.hostid r.uid ≡ false) ⊎ ((known.key r.hostid ≡ None) ⊎ (known.key r.authid ≡ None))
