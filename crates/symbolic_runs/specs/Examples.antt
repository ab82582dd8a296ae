-- Runs written out that the laws of agreement speak of: logins in which something goes another way than in a plain
-- one. The newest event stands first.
use Rattle.std.specs.Prelude.{ℕ, List, [], ◌∷◌, ◌==◌, codes, Some, None, if◌then◌else◌}
use Rattle.wire_base.specs.Names.{name_field}
use Rattle.symbolic_runs.specs.declared.kind.MacKind.TheVariants.{Apop, Cram}
use Rattle.symbolic_runs.specs.Trees.{Tree, plain, nonce, ticket_key, password, seal, digest}
use Rattle.symbolic_runs.specs.Forms.{ticket_request, by_client, mail_request, pair, request, authenticator, client_message, vouch, mail_challenge}
use Rattle.symbolic_runs.specs.Moves.{client, server, mail_client, mail_server, takes, hears, gives, asks, accepts, fails}
use Rattle.symbolic_runs.specs.Sessions.{Grant, got, gives_tickets, gives_challenge, gives_vouch, refuses, ticket_for_server, tickets_given, vouched_ticket, vouched_proof}
use Rattle.symbolic_runs.specs.Runs.{Setting, starts, moves, serves, Run}
use Rattle.symbolic_runs.specs.Cast.{srv, ann, bob, field, domain, asked, offered, eight, digits, before_challenge, before_eight, tickets_for, vouch_for}

-- A p9sk1 server accepts bob by a mail login: the network asks for a mail challenge with the server's own word, has
-- bob's mail client answer it, and hands the server what the authentication server vouches with.
abbrev pub crossed_grant : Grant
crossed_grant = vouch_for srv bob (nonce 1)

abbrev pub crossed : Setting
crossed = record {
  compromised = [];
  domain = domain;
  role = λ conv. if conv == 0 then mail_client Apop else server;
  holder = λ conv. if conv == 0 then bob else srv;
  grants = λ number. crossed_grant;
}

abbrev pub bobs_digits : Tree
bobs_digits = digest Apop (password bob) (mail_challenge domain 0)

abbrev pub challenged : Run
challenged =
    moves 0 (takes (mail_challenge domain 0))
    ∷ serves 0 (gives_challenge Apop 0 before_challenge)
    ∷ serves 0 (got 0 (request (mail_request Apop) (asked srv srv []) (nonce 1)))
    ∷ moves 1 (gives (request ticket_request (offered srv) (nonce 1)))
    ∷ moves 1 (takes (plain eight))
    ∷ starts
    ∷ starts
    ∷ []

abbrev pub answered : Run
answered = serves 0 (got 1 (pair (request (mail_request Apop) (asked srv srv bob) (nonce 1)) bobs_digits))
    ∷ moves 0 (gives bobs_digits) ∷ challenged

abbrev pub crossed_past : Run
crossed_past = moves 1 (takes (pair (vouched_ticket crossed_grant 1) (vouched_proof crossed_grant 1)))
    ∷ serves 0 (gives_vouch Apop 1 0) ∷ answered

abbrev pub crossed_run : Run
crossed_run = moves 1 (accepts (field bob)) ∷ crossed_past

-- The other way round: a mail server accepts ann by a p9sk1 login. The network hands the server's word to ann's p9sk1
-- client as a p9sk1 server's challenge, and what that client gives to the server as the authentication server's
-- answer.
abbrev pub reversed_grant : Grant
reversed_grant = tickets_for srv (Some ann) ann ann (nonce 1)

abbrev pub reversed : Setting
reversed = record {
  compromised = [];
  domain = domain;
  role = λ conv. if conv == 0 then client else mail_server Apop;
  holder = λ conv. if conv == 0 then ann else srv;
  grants = λ number. reversed_grant;
}

abbrev pub handed_on : Tree
handed_on = ticket_for_server reversed_grant 0

abbrev pub opened_by_client : Run
opened_by_client =
    moves 0 (hears (tickets_given reversed_grant 0))
    ∷ serves 0 (gives_tickets 0)
    ∷ serves 0 (got 0 (request ticket_request (asked srv ann ann) (nonce 1)))
    ∷ moves 0 (asks (request ticket_request (asked srv ann ann) (nonce 1)))
    ∷ moves 0 (takes (request ticket_request (offered srv) (nonce 1)))
    ∷ moves 0 (gives (nonce 0))
    ∷ moves 1 (gives (plain eight))
    ∷ moves 1 (hears (pair (plain before_eight) (plain eight)))
    ∷ moves 1 (asks (request (mail_request Apop) (asked srv srv []) (nonce 1)))
    ∷ starts
    ∷ starts
    ∷ []

abbrev pub reversed_past : Run
reversed_past =
    moves 1 (hears (vouch handed_on (seal (ticket_key 0) (authenticator by_client (nonce 1)))))
    ∷ moves 1 (asks (pair (request (mail_request Apop) (asked srv srv ann) (nonce 1)) (plain digits)))
    ∷ moves 1 (takes (plain digits))
    ∷ moves 1 (takes (plain ann))
    ∷ moves 0 (gives (client_message handed_on (ticket_key 0) (nonce 1)))
    ∷ opened_by_client

abbrev pub reversed_run : Run
reversed_run = moves 1 (accepts (field ann)) ∷ reversed_past

-- Two clients hold one ticket: the network hands one request of a server to two conversations of ann, and one answer
-- of the authentication server to both. The server accepts once.
abbrev pub shared_grant : Grant
shared_grant = tickets_for srv (Some ann) ann ann (nonce 1)

abbrev pub shared : Setting
shared = record {
  compromised = [];
  domain = domain;
  role = λ conv. if conv == 1 then server else client;
  holder = λ conv. if conv == 1 then srv else ann;
  grants = λ number. shared_grant;
}

abbrev pub shared_message : Tree
shared_message = client_message (ticket_for_server shared_grant 0) (ticket_key 0) (nonce 1)

abbrev pub both_heard : Run
both_heard =
    moves 2 (hears (tickets_given shared_grant 0))
    ∷ moves 0 (hears (tickets_given shared_grant 0))
    ∷ serves 0 (gives_tickets 0)
    ∷ serves 0 (got 0 (request ticket_request (asked srv ann ann) (nonce 1)))
    ∷ moves 2 (asks (request ticket_request (asked srv ann ann) (nonce 1)))
    ∷ moves 0 (asks (request ticket_request (asked srv ann ann) (nonce 1)))
    ∷ moves 2 (takes (request ticket_request (offered srv) (nonce 1)))
    ∷ moves 0 (takes (request ticket_request (offered srv) (nonce 1)))
    ∷ moves 1 (gives (request ticket_request (offered srv) (nonce 1)))
    ∷ moves 1 (takes (nonce 0))
    ∷ moves 2 (gives (nonce 2))
    ∷ moves 0 (gives (nonce 0))
    ∷ starts
    ∷ starts
    ∷ starts
    ∷ []

abbrev pub shared_past : Run
shared_past = moves 1 (takes shared_message) ∷ moves 2 (gives shared_message) ∷ moves 0 (gives shared_message)
    ∷ both_heard

abbrev pub shared_run : Run
shared_run = moves 1 (accepts (field ann)) ∷ shared_past

-- A key is made up: the authentication server has no key of bob, and makes the client's ticket under a key that
-- nobody has. Bob's client can't open it.
abbrev pub unknown : Setting
unknown = record {
  compromised = [];
  domain = domain;
  role = λ conv. client;
  holder = λ conv. bob;
  grants = λ number. tickets_for srv None bob bob (plain eight);
}

abbrev pub unknown_run : Run
unknown_run =
    moves 0 fails
    ∷ moves 0 (hears (tickets_given (tickets_for srv None bob bob (plain eight)) 0))
    ∷ serves 0 (gives_tickets 0)
    ∷ serves 0 (got 0 (request ticket_request (asked srv bob bob) (plain eight)))
    ∷ moves 0 (asks (request ticket_request (asked srv bob bob) (plain eight)))
    ∷ moves 0 (takes (request ticket_request (offered srv) (plain eight)))
    ∷ moves 0 (gives (nonce 0))
    ∷ starts
    ∷ []

-- The authentication server refuses: somebody answers the challenge of a mail server in ann's name and doesn't know her
-- password.
abbrev pub guessing : Setting
guessing = record {
  compromised = [];
  domain = domain;
  role = λ conv. mail_server Cram;
  holder = λ conv. srv;
  grants = λ number. vouch_for srv ann (nonce 0);
}

-- a refusal: its kind, and a text of 64 bytes
abbrev pub bad_response : List ℕ
bad_response = 5 ∷ name_field 64 (codes "bad response")

abbrev pub refused_run : Run
refused_run =
    moves 0 fails
    ∷ moves 0 (hears (plain bad_response))
    ∷ serves 0 (refuses 1 bad_response)
    ∷ serves 0 (got 1 (pair (request (mail_request Cram) (asked srv srv ann) (nonce 0)) (plain digits)))
    ∷ moves 0 (asks (pair (request (mail_request Cram) (asked srv srv ann) (nonce 0)) (plain digits)))
    ∷ moves 0 (takes (plain digits))
    ∷ moves 0 (takes (plain ann))
    ∷ moves 0 (gives (mail_challenge domain 0))
    ∷ moves 0 (hears (pair (plain before_challenge) (mail_challenge domain 0)))
    ∷ serves 0 (gives_challenge Cram 0 before_challenge)
    ∷ serves 0 (got 0 (request (mail_request Cram) (asked srv srv []) (nonce 0)))
    ∷ moves 0 (asks (request (mail_request Cram) (asked srv srv []) (nonce 0)))
    ∷ starts
    ∷ []
