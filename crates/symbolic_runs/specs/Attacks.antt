-- Runs written out that show why the laws of agreement have their premises, and what the protocols don't give. The
-- newest event stands first.
use Rattle.std.specs.Prelude.{ℕ, List, [], ◌∷◌, ◌==◌, codes, Some, if◌then◌else◌, true}
use Rattle.symbolic_runs.specs.declared.kind.MacKind.TheVariants.{Cram}
use Rattle.symbolic_runs.specs.Trees.{Tree, plain, nonce, long_key, ticket_key, password, seal, digest}
use Rattle.symbolic_runs.specs.Forms.{ticket_request, for_server, request, ticket, client_message, server_message}
use Rattle.symbolic_runs.specs.Moves.{client, server, mail_client, takes, hears, gives, asks, accepts}
use Rattle.symbolic_runs.specs.Sessions.{Grant, got, gives_tickets, ticket_for_server, tickets_given}
use Rattle.symbolic_runs.specs.Runs.{Setting, starts, moves, serves, Run}
use Rattle.symbolic_runs.specs.Agreement.{Acceptance, IsUnder, Matches, ClientAcceptance, IsAnswered}
use Rattle.symbolic_runs.specs.Cast.{srv, other, ann, eve, field, domain, asked, offered, eight, seven, tickets_for, at_the_end}

-- A betrayed server: who has its key makes a ticket with any key in it, and the server accepts ann, for whom nothing
-- was granted.
abbrev pub betrayed_server : Setting
betrayed_server = record {
  compromised = srv ∷ [];
  domain = domain;
  role = λ conv. server;
  holder = λ conv. srv;
  grants = λ number. tickets_for srv (Some ann) ann ann (nonce 0);
}

abbrev pub forged : Tree
forged = seal (long_key srv) (ticket for_server (nonce 0) (field ann) (field ann) (plain seven))

abbrev pub betrayed_server_past : Run
betrayed_server_past =
    moves 0 (takes (client_message forged (plain seven) (nonce 0)))
    ∷ moves 0 (gives (request ticket_request (offered srv) (nonce 0)))
    ∷ moves 0 (takes (plain eight))
    ∷ starts
    ∷ []

abbrev pub betrayed_server_run : Run
betrayed_server_run = moves 0 (accepts (field ann)) ∷ betrayed_server_past

abbrev pub without_grant : Acceptance betrayed_server betrayed_server_run
without_grant = at_the_end betrayed_server betrayed_server_past 0 (field ann) (λ i. true)

-- A betrayed speaker: eve may speak for ann, and her key was betrayed. Who has it asks for tickets in her name, opens
-- hers, and is accepted as ann, though neither ann's key nor the server's was betrayed and no client took part.
abbrev pub speaker_grant : Grant
speaker_grant = tickets_for srv (Some eve) eve ann (nonce 0)

abbrev pub betrayed_speaker : Setting
betrayed_speaker = record {
  compromised = eve ∷ [];
  domain = domain;
  role = λ conv. server;
  holder = λ conv. srv;
  grants = λ number. speaker_grant;
}

abbrev pub betrayed_speaker_past : Run
betrayed_speaker_past =
    moves 0 (takes (client_message (ticket_for_server speaker_grant 0) (ticket_key 0) (nonce 0)))
    ∷ serves 0 (gives_tickets 0)
    ∷ serves 0 (got 0 (request ticket_request (asked srv eve ann) (nonce 0)))
    ∷ moves 0 (gives (request ticket_request (offered srv) (nonce 0)))
    ∷ moves 0 (takes (plain eight))
    ∷ starts
    ∷ []

abbrev pub betrayed_speaker_run : Run
betrayed_speaker_run = moves 0 (accepts (field ann)) ∷ betrayed_speaker_past

abbrev pub without_match : Acceptance betrayed_speaker betrayed_speaker_run
without_match = at_the_end betrayed_speaker betrayed_speaker_past 0 (field ann) (λ i. true)

-- an acceptance is under no grant, and before a place no conversation matches anything
abbrev pub IsUnderNone : (s : Setting) (run : Run) → Acceptance s run → Type 0
IsUnderNone s run a = (number : ℕ) → IsUnder s run a number → ⊥

abbrev pub IsUnmatched : Setting → Run → Type 0
IsUnmatched s past = (number : ℕ) (user : List ℕ) (conv : ℕ) → Matches s past number user conv → ⊥

-- An exposed grant: the server's key was betrayed. Who has it opens the ticket that ann's client hands on and answers
-- that client, which accepts, though there is no server at all.
abbrev pub exposed_grant : Grant
exposed_grant = tickets_for srv (Some ann) ann ann (plain eight)

abbrev pub exposed_server : Setting
exposed_server = record {
  compromised = srv ∷ [];
  domain = domain;
  role = λ conv. client;
  holder = λ conv. ann;
  grants = λ number. exposed_grant;
}

abbrev pub exposed_past : Run
exposed_past =
    moves 0 (takes (server_message (ticket_key 0) (nonce 0)))
    ∷ moves 0 (gives (client_message (ticket_for_server exposed_grant 0) (ticket_key 0) (plain eight)))
    ∷ moves 0 (hears (tickets_given exposed_grant 0))
    ∷ serves 0 (gives_tickets 0)
    ∷ serves 0 (got 0 (request ticket_request (asked srv ann ann) (plain eight)))
    ∷ moves 0 (asks (request ticket_request (asked srv ann ann) (plain eight)))
    ∷ moves 0 (takes (request ticket_request (offered srv) (plain eight)))
    ∷ moves 0 (gives (nonce 0))
    ∷ starts
    ∷ []

abbrev pub exposed_run : Run
exposed_run = moves 0 (accepts (field ann)) ∷ exposed_past

abbrev pub exposed_acceptance : ClientAcceptance exposed_server exposed_run
exposed_acceptance = record {
  conv = 0;
  user = field ann;
  past = exposed_past;
  stands = record { later = []; place = λ i. exposed_run };
  by_a_client = λ i. client;
}

-- nobody answered a client
abbrev pub IsUnanswered : (s : Setting) (run : Run) → ClientAcceptance s run → Type 0
IsUnanswered s run a = (number : ℕ) → IsAnswered s run a number → ⊥

-- A client is turned to another server: the network writes another name into the server's request and back into the
-- client's question. Ann's client asked for srv, and both it and the other server accept.
abbrev pub turned_grant : Grant
turned_grant = tickets_for other (Some ann) ann ann (nonce 1)

abbrev pub turned : Setting
turned = record {
  compromised = [];
  domain = domain;
  role = λ conv. if conv == 0 then client else server;
  holder = λ conv. if conv == 0 then ann else other;
  grants = λ number. turned_grant;
}

abbrev pub turned_message : Tree
turned_message = client_message (ticket_for_server turned_grant 0) (ticket_key 0) (nonce 1)

abbrev pub turned_run : Run
turned_run =
    moves 0 (accepts (field ann))
    ∷ moves 0 (takes (server_message (ticket_key 0) (nonce 0)))
    ∷ moves 1 (gives (server_message (ticket_key 0) (nonce 0)))
    ∷ moves 1 (accepts (field ann))
    ∷ moves 1 (takes turned_message)
    ∷ moves 0 (gives turned_message)
    ∷ moves 0 (hears (tickets_given turned_grant 0))
    ∷ serves 0 (gives_tickets 0)
    ∷ serves 0 (got 0 (request ticket_request (asked other ann ann) (nonce 1)))
    ∷ moves 0 (asks (request ticket_request (asked srv ann ann) (nonce 1)))
    ∷ moves 0 (takes (request ticket_request (offered srv) (nonce 1)))
    ∷ moves 1 (gives (request ticket_request (offered other) (nonce 1)))
    ∷ moves 1 (takes (nonce 0))
    ∷ moves 0 (gives (nonce 0))
    ∷ starts
    ∷ starts
    ∷ []

-- A mail client answers anybody: a text that the network made up.
abbrev pub anybody : Setting
anybody = record {
  compromised = [];
  domain = domain;
  role = λ conv. mail_client Cram;
  holder = λ conv. ann;
  grants = λ number. tickets_for srv (Some ann) ann ann (nonce 0);
}

abbrev pub anybody_run : Run
anybody_run =
    moves 0 (gives (digest Cram (password ann) (plain (codes "<who asks>"))))
    ∷ moves 0 (takes (plain (codes "<who asks>")))
    ∷ starts
    ∷ []
