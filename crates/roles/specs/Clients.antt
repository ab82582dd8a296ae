-- The client of p9sk1, for itself or speaking for another (authsrv(6) and factotum(4) of the Plan 9 manual): an
-- equation a move, and in it the tests in the order in which they are made. Which cause a failed test has is this
-- project's.
use Rattle.std.specs.Prelude.{ℕ, ◌==◌, ◌&&◌, ◌||◌, not, Bool, false, List, [], ◌∷◌, ◌++◌, length, drop, slice_index, codes, Option, Some, None, if◌then◌else◌}
use Rattle.std.specs.Str.{bytes_eq}
use Rattle.wire_base.specs.Rules.{Rule}
use Rattle.attr_tuples.specs.Forms.{is_dom}
use Rattle.attr_tuples.specs.Matching.{value_of}
use Rattle.sealing.specs.Request.{request_of, request_text}
use Rattle.sealing.specs.declared.authenticator.Authenticator.{Authenticator}
use Rattle.sealing.specs.declared.kind.TheConstants.{AUTH_TREQ, AUTH_OK, AUTH_ERR, AUTH_TC, AUTH_AC, AUTH_AS}
use Rattle.sealing.specs.declared.request.TicketReq.{TicketReq}
use Rattle.sealing.specs.declared.ticket.Ticket.{Ticket}
use Rattle.roles.specs.declared.answer.Cause.{Cause}
use Rattle.roles.specs.declared.answer.Cause.TheVariants.{WrongKind, WrongChallenge, WrongUser, NotOffered, ServerSaidNo, BadKey}
use Rattle.roles.specs.declared.answer.Gave.TheVariants as g
use Rattle.roles.specs.declared.key.SkKey.{SkKey}
use Rattle.roles.specs.declared.stage.Role.{Role}
use Rattle.roles.specs.declared.stage.Role.TheVariants.{Client, Server, Speakfor}
use Rattle.roles.specs.declared.stage.Stage.{Stage}
use Rattle.roles.specs.declared.stage.Stage.TheVariants.{ClientKey, ClientThird, ClientFourth, ClientDone}
use Rattle.roles.specs.Starts.{Start, role_of}
use Rattle.roles.specs.Talks.{Verdict, goes, breaks, tested}
use Rattle.roles.specs.Tickets.{ticket_under, with_ticket, proof_under, proof_for, with_request, challenge_in, ticket_part, rest_part}

-- ---- the second move: a server's request comes, a key is found for it, the authentication server answers

-- the start names a domain, and it isn't this
abbrev pub is_elsewhere : Option (List ℕ) → List ℕ → Bool
is_elsewhere None dom = false
is_elsewhere (Some wanted) dom = not (bytes_eq wanted dom)

-- the tests of a server's request whose fields are well
abbrev pub request_tests : Start → TicketReq → List (Rule Cause)
request_tests start request =
    (not (request.kind == AUTH_TREQ), WrongKind)
    ∷ (length request.authid == 0, WrongKind)
    ∷ (not (is_dom request.authdom), WrongKind)
    ∷ (is_elsewhere (value_of (codes "dom") start.template) request.authdom, NotOffered)
    ∷ []

-- a server's request of 141 bytes
abbrev pub request_came : Start → List ℕ → Verdict Stage
request_came start b = with_request WrongKind (request_of b)
    (λ request. tested (request_tests start request) (goes (ClientKey b) g.Wait []))

-- whom the client asks to be: the user of its key, or the one for whom it speaks
abbrev pub wanted_user : Role → SkKey → List ℕ
wanted_user (Speakfor user) key = user
wanted_user Client key = key.user
wanted_user Server key = key.user

-- the question for the authentication server: what the server's request says, for the key's user, who wants to be this
-- user
abbrev pub question_for : Role → SkKey → TicketReq → List ℕ
question_for role key request = request_text (record {
  kind = AUTH_TREQ;
  authid = request.authid;
  authdom = request.authdom;
  chal = request.chal;
  hostid = key.user;
  uid = wanted_user role key;
})

-- an answer that is a refusal with its text, and one that grants, with two tickets
abbrev pub is_refusal : List ℕ → Bool
is_refusal answer = (length answer == 65) && (slice_index answer 0 == AUTH_ERR)

abbrev pub grants_tickets : List ℕ → Bool
grants_tickets answer = (length answer == 145) && (slice_index answer 0 == AUTH_OK)

-- the tests of the client's ticket, which opened
abbrev pub ticket_tests : Start → List ℕ → SkKey → Ticket → List (Rule Cause)
ticket_tests start request key ticket =
    (not (ticket.num == AUTH_TC), BadKey)
    ∷ (not (bytes_eq ticket.chal (challenge_in request)), WrongChallenge)
    ∷ (
      not (bytes_eq ticket.cuid key.user)
          || not (bytes_eq ticket.suid (wanted_user (role_of start.template) key)),
      WrongUser,
    )
    ∷ []

-- two tickets of the authentication server
abbrev pub tickets_came : Start → List ℕ → SkKey → List ℕ → Verdict Stage
tickets_came start request key tickets =
    with_ticket BadKey (ticket_under key (ticket_part tickets))
    (λ ticket. tested (ticket_tests start request key ticket) (goes (ClientThird request key tickets) g.Ok []))

-- an answer of the authentication server
abbrev pub answer_came : Start → List ℕ → SkKey → List ℕ → Verdict Stage
answer_came start request key answer =
    if is_refusal answer then breaks ServerSaidNo
    else if grants_tickets answer then tickets_came start request key (drop 1 answer)
    else breaks WrongKind

-- ---- the third and the fourth move: the server's ticket is handed on, and the server proves that it opened it

-- the server's ticket as it came, and an authenticator for the server's challenge
abbrev pub handed_on : List ℕ → List ℕ → Ticket → List ℕ
handed_on request tickets ticket = rest_part tickets ++ proof_for AUTH_AC (challenge_in request) ticket

abbrev pub tickets_got : List ℕ → SkKey → List ℕ → Verdict Stage
tickets_got request key tickets =
    with_ticket BadKey (ticket_under key (ticket_part tickets))
    (λ ticket. goes (ClientFourth request key tickets) g.Ok (handed_on request tickets ticket))

-- the tests of the server's authenticator
abbrev pub proof_tests : ℕ → List ℕ → Authenticator → List (Rule Cause)
proof_tests kind challenge proof =
    (not (proof.num == kind) || not (proof.id == 0), WrongKind)
    ∷ (not (bytes_eq proof.chal challenge), WrongChallenge)
    ∷ []

-- the server's authenticator of 13 bytes
abbrev pub proof_came : Start → List ℕ → SkKey → List ℕ → List ℕ → Verdict Stage
proof_came start request key tickets b =
    with_ticket BadKey (ticket_under key (ticket_part tickets))
    (λ ticket. tested (proof_tests AUTH_AS start.word (proof_under ticket b))
    (goes (ClientDone request key tickets b) g.Ok []))
