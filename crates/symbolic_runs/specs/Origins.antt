-- Where seals and digests come from: the rows that seal and digest, and a place in a run where one of them did.
use Rattle.std.specs.Prelude.{◌≡◌, ℕ, List, [], ◌∷◌, ◌++◌}
use Rattle.symbolic_runs.specs.declared.kind.MacKind.{MacKind}
use Rattle.symbolic_runs.specs.Trees.{Tree, long_key, password, nonce, seal, digest}
use Rattle.symbolic_runs.specs.Forms.{ticket_request, for_server, for_client, by_client, by_server, Fields, pair, request, ticket, authenticator, tickets, client_message, server_message}
use Rattle.symbolic_runs.specs.Moves.{client, server, mail_client, Move, takes, hears, gives, asks, accepts}
use Rattle.symbolic_runs.specs.Sessions.{gives_tickets, gives_vouch, ticket_for_client, ticket_for_server, vouched_ticket, vouched_proof, SessionRow}
use Rattle.symbolic_runs.specs.Runs.{Setting, Event, moves, serves, Run, moves_of, deeds_of}

-- an event after this past makes this seal
pub data Seals (s : Setting) (past : Run) : Event → Tree → Type 0 where
  -- a client's authenticator, for the ticket key and the challenge that it was told
  client_seals : {conv : ℕ} (asked : Fields) {chal key handed : Tree} (cuid suid : List ℕ) (before : List Move)
      → s.role conv ≡ client →
      moves_of conv past ≡ hears
      (tickets (seal (long_key (s.holder conv)) (ticket for_client chal cuid suid key)) handed)
      ∷ asks (request ticket_request asked chal) ∷ before →
      Seals s past (moves conv (gives (client_message handed key chal))) (seal key (authenticator by_client chal))
  -- a server's authenticator, for the ticket key of a ticket that it opened and the client's challenge
  server_seals : {conv : ℕ} (fields : Fields) {y key : Tree} (cuid suid : List ℕ) → s.role conv ≡ server →
      moves_of conv past ≡ accepts suid
      ∷ takes (pair (seal (long_key (s.holder conv)) (ticket for_server (nonce conv) cuid suid key))
      (seal key (authenticator by_client (nonce conv)))) ∷ gives (request ticket_request fields (nonce conv))
      ∷ takes y ∷ [] →
      Seals s past (moves conv (gives (server_message key y))) (seal key (authenticator by_server y))
  -- the two tickets of an answer to a ticket request
  seals_for_client : {session number : ℕ}
      → SessionRow s.domain s.grants (deeds_of session past) (gives_tickets number) →
      Seals s past (serves session (gives_tickets number)) (ticket_for_client (s.grants number) number)
  seals_for_server : {session number : ℕ}
      → SessionRow s.domain s.grants (deeds_of session past) (gives_tickets number) →
      Seals s past (serves session (gives_tickets number)) (ticket_for_server (s.grants number) number)
  -- the ticket and the authenticator that vouch for a right answer
  vouches_by_ticket : {session number first : ℕ} {kind : MacKind}
      → SessionRow s.domain s.grants (deeds_of session past) (gives_vouch kind number first) →
      Seals s past (serves session (gives_vouch kind number first)) (vouched_ticket (s.grants number) number)
  vouches_by_proof : {session number first : ℕ} {kind : MacKind}
      → SessionRow s.domain s.grants (deeds_of session past) (gives_vouch kind number first) →
      Seals s past (serves session (gives_vouch kind number first)) (vouched_proof (s.grants number) number)

-- an event after this past makes this digest: a mail client's answer to what it took, by its holder's password
pub data Digests (s : Setting) (past : Run) : Event → Tree → Type 0 where
  client_digests : {conv : ℕ} {kind : MacKind} {t : Tree} → s.role conv ≡ mail_client kind
      → moves_of conv past ≡ takes t ∷ [] →
      Digests s past (moves conv (gives (digest kind (password (s.holder conv)) t)))
      (digest kind (password (s.holder conv)) t)

-- a place in a run where a tree was made
pub record Origin (Makes : Run → Event → Tree → Type 0) (run : Run) (t : Tree) : Type 0 where
  pub later : Run
  pub event : Event
  pub past : Run
  pub place : run ≡ later ++ event ∷ past
  pub made : Makes past event t
