-- The server of APOP and CRAM, which has the authentication server give a challenge and vouch for the user who
-- answers it (authsrv(6) of the Plan 9 manual): an equation a move, and in it the tests in the order in which they
-- are made. Which cause a failed test has is this project's.
use Rattle.std.specs.Prelude.{ℕ, ◌+◌, ◌==◌, ◌&&◌, ◌||◌, not, Bool, List, [], ◌∷◌, ◌++◌, nat_le, length, take, drop, slice_index, if◌then◌else◌}
use Rattle.std.specs.Str.{bytes_eq}
use Rattle.wire_base.specs.Rules.{Rule}
use Rattle.wire_base.specs.Texts.{is_text}
use Rattle.attr_tuples.specs.Forms.{is_user}
use Rattle.sealing.specs.Request.{request_text}
use Rattle.sealing.specs.declared.authenticator.Authenticator.{Authenticator}
use Rattle.sealing.specs.declared.kind.TheConstants.{AUTH_APOP, AUTH_CRAM, AUTH_OK, AUTH_OK_VAR, AUTH_TS, AUTH_AC}
use Rattle.sealing.specs.declared.ticket.Ticket.{Ticket}
use Rattle.roles.specs.declared.answer.Cause.{Cause}
use Rattle.roles.specs.declared.answer.Cause.TheVariants.{WrongKind, WrongChallenge, WrongUser, ServerSaidNo, BadKey}
use Rattle.roles.specs.declared.answer.Gave.TheVariants as g
use Rattle.roles.specs.declared.key.SkKey.{SkKey}
use Rattle.roles.specs.Starts.{Start}
use Rattle.roles.specs.Talks.{Verdict, goes, breaks, sized, tested}
use Rattle.roles.specs.Tickets.{ticket_under, with_ticket, proof_under, ticket_part, rest_part}
use Rattle.roles.specs.Clients.{is_refusal, proof_tests}
use Rattle.conv_challenge.specs.declared.stage.TheConstants.{MOST_CHALLENGE}
use Rattle.conv_challenge.specs.declared.stage.Proto.{Proto}
use Rattle.conv_challenge.specs.declared.stage.Proto.TheVariants.{Apop, Cram}
use Rattle.conv_challenge.specs.declared.stage.Stage.{Stage}
use Rattle.conv_challenge.specs.declared.stage.Stage.TheVariants.{ServerFirst, ServerSecond, ServerThird, ServerVouch, ServerDone}
use Rattle.conv_challenge.specs.Starts.{proto_of}
use Rattle.conv_challenge.specs.Numbers.{told_length}
use Rattle.conv_challenge.specs.Clients.{bounded}

-- ---- the questions for the authentication server

abbrev pub request_kind : Proto → ℕ
request_kind Apop = AUTH_APOP
request_kind Cram = AUTH_CRAM

-- a request of the key's user for a conversation's protocol and word, about this user
abbrev pub request_about : Start → SkKey → List ℕ → List ℕ
request_about start key user = request_text (record {
  kind = request_kind
      (proto_of start.template);
  authid = key.user;
  authdom = key.dom;
  chal = start.word;
  hostid = key.user;
  uid = user;
})

-- what asks for a challenge: it is about nobody yet
abbrev pub challenge_question : Start → SkKey → List ℕ
challenge_question start key = request_about start key []

-- what asks to vouch for a user by his digits
abbrev pub vouch_question : Start → SkKey → List ℕ → List ℕ → List ℕ
vouch_question start key user digits = request_about start key user ++ digits

-- ---- the start: a challenge of the authentication server comes

-- the length of the challenge in an answer
abbrev pub length_in : List ℕ → ℕ
length_in answer = told_length (take 5 (drop 1 answer))

-- it tells a length that a challenge may have, and so many bytes stand behind it
abbrev pub has_length : List ℕ → Bool
has_length answer = nat_le 1 (length_in answer)
    && (nat_le (length_in answer) MOST_CHALLENGE && (length answer == 6 + length_in answer))

-- an answer that is a challenge, behind its kind and its length
abbrev pub grants_challenge : List ℕ → Bool
grants_challenge answer = nat_le 6 (length answer) && ((slice_index answer 0 == AUTH_OK_VAR) && has_length answer)

abbrev pub challenge_came : SkKey → List ℕ → Verdict Stage
challenge_came key answer =
    if is_refusal answer then breaks ServerSaidNo
    else if grants_challenge answer then goes (ServerFirst key (drop 6 answer)) g.Ok []
    else breaks WrongKind

-- ---- the first move: the challenge is got

abbrev pub challenge_got : SkKey → List ℕ → Verdict Stage
challenge_got key challenge = goes (ServerSecond key challenge) g.Ok challenge

-- ---- the second and the third move: the user and his digits come

-- the test of a user's name
abbrev pub user_tests : List ℕ → List (Rule Cause)
user_tests b = (not (is_user b) || not (is_text b), WrongUser) ∷ []

abbrev pub user_came : SkKey → List ℕ → List ℕ → Verdict Stage
user_came key challenge b = bounded 27 b (tested (user_tests b) (goes (ServerThird key challenge b) g.Ok []))

abbrev pub digits_came : SkKey → List ℕ → List ℕ → List ℕ → Verdict Stage
digits_came key challenge user b = sized 32 b (goes (ServerVouch key challenge user b) g.Wait [])

-- ---- the authentication server vouches

-- an answer that is a ticket and an authenticator
abbrev pub grants_vouch : List ℕ → Bool
grants_vouch answer = (length answer == 86) && (slice_index answer 0 == AUTH_OK)

-- the tests of a ticket, which opened, and then of its authenticator
abbrev pub vouch_tests : Start → List ℕ → Ticket → Authenticator → List (Rule Cause)
vouch_tests start user ticket proof =
    (not (ticket.num == AUTH_TS), BadKey)
    ∷ (not (bytes_eq ticket.chal start.word), WrongChallenge)
    ∷ (not (bytes_eq ticket.cuid user) || not (bytes_eq ticket.suid user), WrongUser)
    ∷ proof_tests AUTH_AC start.word proof

-- a ticket and an authenticator; the user whom they name is accepted here
abbrev pub vouch_opened : Start → SkKey → List ℕ → List ℕ → List ℕ → List ℕ → Verdict Stage
vouch_opened start key challenge user digits vouch =
    with_ticket BadKey (ticket_under key (ticket_part vouch))
    (λ ticket. tested (vouch_tests start user ticket (proof_under ticket (rest_part vouch)))
    (goes (ServerDone key challenge user digits vouch) g.Ok []))

abbrev pub vouch_came : Start → SkKey → List ℕ → List ℕ → List ℕ → List ℕ → Verdict Stage
vouch_came start key challenge user digits answer =
    if is_refusal answer then breaks ServerSaidNo
    else if grants_vouch answer then vouch_opened start key challenge user digits (drop 1 answer)
    else breaks WrongKind
