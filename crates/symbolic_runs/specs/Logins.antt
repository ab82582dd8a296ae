-- Logins written out as runs, so that the laws of runs speak of something. The conversation with number 0 is the
-- client's, that with number 1 the server's. The newest event stands first.
use Rattle.std.specs.Prelude.{ℕ, List, [], ◌∷◌, ◌==◌, Some, if◌then◌else◌}
use Rattle.symbolic_runs.specs.declared.kind.MacKind.{MacKind}
use Rattle.symbolic_runs.specs.Trees.{Tree, plain, nonce, long_key, ticket_key, password, seal, digest}
use Rattle.symbolic_runs.specs.Forms.{ticket_request, for_server, mail_request, Fields, name_text, pair, request, ticket, client_message, server_message, mail_challenge}
use Rattle.symbolic_runs.specs.Moves.{client, server, mail_client, mail_server, takes, hears, gives, asks, accepts}
use Rattle.symbolic_runs.specs.Sessions.{Grant, keys, key_and_password, got, gives_tickets, gives_challenge, gives_vouch, tickets_given, vouch_given}
use Rattle.symbolic_runs.specs.Runs.{Setting, starts, talks, moves, serves, Run}

-- what the parties put into a login: the names whose keys they hold, the fields of the server's request and of the
-- client's question, the two users of the ticket
pub record Login : Type 0 where
  pub user : List ℕ
  pub host : List ℕ
  pub offered : Fields
  pub asked : Fields
  pub cuid : List ℕ
  pub suid : List ℕ

-- what the authentication server grants: tickets sealed under both keys
abbrev pub p9sk1_grant : Login → Grant
p9sk1_grant login = record {
  used = keys (Some login.host) (Some login.user);
  speakers = login.user ∷ [];
  chal = nonce 1;
  host = login.cuid;
  user = login.suid;
}

-- the client holds the key of the user, the server its own; nobody is compromised
abbrev pub p9sk1_setting : Login → Setting
p9sk1_setting login = record {
  compromised = [];
  domain = [];
  role = λ conv. if conv == 0 then client else server;
  holder = λ conv. if conv == 0 then login.user else login.host;
  grants = λ number. p9sk1_grant login;
}

-- the ticket that the client hands on, and the answer in which it stands
abbrev pub handed : Login → Tree
handed login = seal (long_key login.host) (ticket for_server (nonce 1) login.cuid login.suid (ticket_key 0))

abbrev pub answered : Login → Tree
answered login = tickets_given (p9sk1_grant login) 0

-- a p9sk1 login behind what the two conversations did before
abbrev pub p9sk1_login_after : Login → Run → Run
p9sk1_login_after login before =
    moves 0 (accepts login.suid)
    ∷ moves 0 (takes (server_message (ticket_key 0) (nonce 0)))
    ∷ moves 1 (gives (server_message (ticket_key 0) (nonce 0)))
    ∷ moves 1 (accepts login.suid)
    ∷ moves 1 (takes (client_message (handed login) (ticket_key 0) (nonce 1)))
    ∷ moves 0 (gives (client_message (handed login) (ticket_key 0) (nonce 1)))
    ∷ moves 0 (hears (answered login))
    ∷ serves 0 (gives_tickets 0)
    ∷ serves 0 (got 0 (request ticket_request login.asked (nonce 1)))
    ∷ moves 0 (asks (request ticket_request login.asked (nonce 1)))
    ∷ moves 0 (takes (request ticket_request login.offered (nonce 1)))
    ∷ moves 1 (gives (request ticket_request login.offered (nonce 1)))
    ∷ moves 1 (takes (nonce 0))
    ∷ moves 0 (gives (nonce 0))
    ∷ before

abbrev pub p9sk1_login : Login → Run
p9sk1_login login = p9sk1_login_after login (starts ∷ starts ∷ [])

-- the same after the server's offers and the client's choice went to and fro; what comes of them is what the network
-- makes of them
abbrev pub p9any_login : Login → List ℕ → List ℕ → List ℕ → List ℕ → Run
p9any_login login offers heard choice taken =
    p9sk1_login_after login (talks 1 taken ∷ talks 0 choice ∷ talks 0 heard ∷ talks 1 offers ∷ starts ∷ starts ∷ [])

-- what is put into a mail login: the names of the client's password and of the server's key, the fields of the two
-- questions, the bytes before the challenge
pub record MailLogin : Type 0 where
  pub user : List ℕ
  pub host : List ℕ
  pub domain : List ℕ
  pub first : Fields
  pub second : Fields
  pub head : List ℕ

-- what the authentication server grants: a ticket sealed under the server's key
abbrev pub mail_grant : MailLogin → Grant
mail_grant login = record {
  used = key_and_password (Some login.host) login.user;
  speakers = login.user ∷ [];
  chal = nonce 1;
  host = login.second.uid;
  user = login.second.uid;
}

-- the client holds the user's password, the server its own key
abbrev pub mail_setting : MacKind → MailLogin → Setting
mail_setting kind login = record {
  compromised = [];
  domain = login.domain;
  role = λ conv. if conv == 0 then mail_client kind else mail_server kind;
  holder = λ conv. if conv == 0 then login.user else login.host;
  grants = λ number. mail_grant login;
}

abbrev pub digits : MacKind → MailLogin → Tree
digits kind login = digest kind (password login.user) (mail_challenge login.domain 0)

abbrev pub mail_login : MacKind → MailLogin → Run
mail_login kind login =
    moves 1 (accepts login.second.uid)
    ∷ moves 1 (hears (vouch_given (mail_grant login) 1))
    ∷ serves 0 (gives_vouch kind 1 0)
    ∷ serves 0 (got 1 (pair (request (mail_request kind) login.second (nonce 1)) (digits kind login)))
    ∷ moves 1 (asks (pair (request (mail_request kind) login.second (nonce 1)) (digits kind login)))
    ∷ moves 1 (takes (digits kind login))
    ∷ moves 1 (takes (plain (name_text login.second.uid)))
    ∷ moves 0 (gives (digits kind login))
    ∷ moves 0 (takes (mail_challenge login.domain 0))
    ∷ moves 1 (gives (mail_challenge login.domain 0))
    ∷ moves 1 (hears (pair (plain login.head) (mail_challenge login.domain 0)))
    ∷ serves 0 (gives_challenge kind 0 login.head)
    ∷ serves 0 (got 0 (request (mail_request kind) login.first (nonce 1)))
    ∷ moves 1 (asks (request (mail_request kind) login.first (nonce 1)))
    ∷ starts
    ∷ starts
    ∷ []
