-- The server of p9sk1 (authsrv(6) and factotum(4) of the Plan 9 manual): an equation a move, and in it the tests in the
-- order in which they are made. Which cause a failed test has is this project's.
use Rattle.std.specs.Prelude.{ℕ, ◌==◌, not, List, [], ◌∷◌, length}
use Rattle.std.specs.Str.{bytes_eq}
use Rattle.wire_base.specs.Rules.{Rule}
use Rattle.sealing.specs.Request.{request_text}
use Rattle.sealing.specs.declared.kind.TheConstants.{AUTH_TREQ, AUTH_TS, AUTH_AC, AUTH_AS}
use Rattle.sealing.specs.declared.authenticator.Authenticator.{Authenticator}
use Rattle.sealing.specs.declared.ticket.Ticket.{Ticket}
use Rattle.roles.specs.declared.answer.Cause.{Cause}
use Rattle.roles.specs.declared.answer.Cause.TheVariants.{WrongKind, WrongChallenge, WrongUser}
use Rattle.roles.specs.declared.answer.Gave.TheVariants as g
use Rattle.roles.specs.declared.key.SkKey.{SkKey}
use Rattle.roles.specs.declared.stage.Stage.{Stage}
use Rattle.roles.specs.declared.stage.Stage.TheVariants.{ServerFourth, ServerDone}
use Rattle.roles.specs.Starts.{Start}
use Rattle.roles.specs.Talks.{Verdict, goes, tested}
use Rattle.roles.specs.Tickets.{ticket_under, with_ticket, proof_under, proof_for, ticket_part, rest_part}
use Rattle.roles.specs.Clients.{proof_tests}

-- the second move: the request, with the key's user and domain and the server's challenge, for nobody yet
abbrev pub server_request : Start → SkKey → List ℕ
server_request start key = request_text (record {
  kind = AUTH_TREQ;
  authid = key.user;
  authdom = key.dom;
  chal = start.word;
  hostid = [];
  uid = [];
})

-- the tests of what a client shows in the third move: its ticket, which opened, and then its authenticator
abbrev pub shown_tests : Start → Ticket → Authenticator → List (Rule Cause)
shown_tests start ticket proof =
    (not (ticket.num == AUTH_TS), WrongKind)
    ∷ (not (bytes_eq ticket.chal start.word), WrongChallenge)
    ∷ (length ticket.suid == 0, WrongUser)
    ∷ proof_tests AUTH_AC start.word proof

-- the third move: a ticket and an authenticator, 85 bytes; who passes is accepted here
abbrev pub shown_came : Start → SkKey → List ℕ → List ℕ → Verdict Stage
shown_came start key theirs b =
    with_ticket WrongKind (ticket_under key (ticket_part b))
    (λ ticket. tested (shown_tests start ticket (proof_under ticket (rest_part b)))
    (goes (ServerFourth key theirs b) g.Ok []))

-- the fourth move: an authenticator for the client's challenge
abbrev pub proof_got : SkKey → List ℕ → List ℕ → Verdict Stage
proof_got key theirs shown =
    with_ticket WrongKind (ticket_under key (ticket_part shown))
    (λ ticket. goes (ServerDone key theirs shown) g.Ok (proof_for AUTH_AS theirs ticket))
