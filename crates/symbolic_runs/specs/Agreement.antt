-- What it means that the two ends of a login agree: on which grant a server accepted a user, which conversation of
-- the user's client took part, and which server answered a client (Lowe, A Hierarchy of Authentication
-- Specifications, 1997). A conversation is told by the number of its start and not by names, and a place of a run by
-- what stands before it.
use Rattle.std.specs.Prelude.{◌≡◌, ℕ, List, ◌∷◌, Contains, Bool, true, false, Option, Some}
use Rattle.symbolic_runs.specs.declared.kind.MacKind.{MacKind}
use Rattle.symbolic_runs.specs.Trees.{Tree, nonce, long_key, ticket_key, password, seal, digest}
use Rattle.symbolic_runs.specs.Forms.{for_server, for_client, pair, ticket, tickets, client_message, server_message, vouch, mail_challenge}
use Rattle.symbolic_runs.specs.Moves.{Role, client, server, mail_client, mail_server, Move, takes, hears, gives, accepts}
use Rattle.symbolic_runs.specs.Sessions.{Used, keys, key_and_password, Deed, gives_tickets, gives_vouch, ticket_for_server, vouched_ticket}
use Rattle.symbolic_runs.specs.Runs.{Setting, moves, serves, Run, moves_of}
use Rattle.symbolic_runs.specs.Secrets.{is_compromised}
use Rattle.symbolic_runs.specs.Places.{Stands}

-- the names that were used at a request: that of the key which sealed the ticket for the server, and that of the
-- host's key or of the password; none where the key was made up
abbrev pub server_name : Used → Option (List ℕ)
server_name (keys sealer host) = sealer
server_name (key_and_password sealer name) = sealer

abbrev pub client_name : Used → Option (List ℕ)
client_name (keys sealer host) = host
client_name (key_and_password sealer name) = Some name

abbrev pub is_server : Role → Bool
is_server server = true
is_server (mail_server kind) = true
is_server role = false

-- a server accepts a user, at a place of a run
pub record Acceptance (s : Setting) (run : Run) : Type 0 where
  pub conv : ℕ
  pub user : List ℕ
  pub past : Run
  pub stands : Stands run past (moves conv (accepts user))
  pub by_a_server : is_server (s.role conv) ≡ true

-- the ticket by which a server accepts: the one that stands in what it took last from a client, or in what it heard
-- last from the authentication server
pub data Shows : Role → List Move → Tree → Type 0 where
  by_a_client : {shown proof : Tree} {before : List Move} → Shows server (takes (pair shown proof) ∷ before) shown
  by_a_vouch : {kind : MacKind} {shown proof : Tree} {before : List Move}
      → Shows (mail_server kind) (hears (vouch shown proof) ∷ before) shown

abbrev pub IsByTicket : (s : Setting) (run : Run) → Acceptance s run → Tree → Type 0
IsByTicket s run a shown = Shows (s.role a.conv) (moves_of a.conv a.past) shown

-- an acceptance is under a grant where the ticket by which the server accepts holds the key of that grant
pub record IsUnder (s : Setting) (run : Run) (a : Acceptance s run) (number : ℕ) : Type 0 where
  pub key : Tree
  pub chal : Tree
  pub cuid : List ℕ
  pub suid : List ℕ
  pub by_ticket : IsByTicket s run a (seal key (ticket for_server chal cuid suid (ticket_key number)))

-- a deed of the authentication server makes a grant of this number, with this ticket for the server
pub data Grants (s : Setting) (number : ℕ) : Deed → Tree → Type 0 where
  by_tickets : Grants s number (gives_tickets number) (ticket_for_server (s.grants number) number)
  by_vouching : {kind : MacKind} {first : ℕ}
      → Grants s number (gives_vouch kind number first) (vouched_ticket (s.grants number) number)

-- a grant was made, with this ticket for the server
pub record IsGranted (s : Setting) (run : Run) (number : ℕ) (for_the_server : Tree) : Type 0 where
  pub past : Run
  pub session : ℕ
  pub deed : Deed
  pub stands : Stands run past (serves session deed)
  pub grants : Grants s number deed for_the_server

-- an acceptance rests on a grant: it is under it, and the grant was made before; its ticket, by which the server
-- accepts, was sealed under the key of the server's holder, with the user accepted and the conversation's own word as
-- challenge
pub record IsGrantedTo (s : Setting) (run : Run) (a : Acceptance s run) (number : ℕ) : Type 0 where
  pub under : IsUnder s run a number
  pub for_the_server : Tree
  pub granted : IsGranted s a.past number for_the_server
  pub by_its_ticket : IsByTicket s run a for_the_server
  pub sealed_for : server_name (s.grants number).used ≡ Some (s.holder a.conv)
  pub user : (s.grants number).user ≡ a.user
  pub chal : (s.grants number).chal ≡ nonce a.conv

-- none of the names that may speak for the user of a grant is compromised
abbrev pub SpeakersAreTrue : Setting → ℕ → Type 0
SpeakersAreTrue s number = (name : List ℕ) → Contains (s.grants number).speakers name → is_compromised s name ≡ false

-- before this place a conversation matched a grant and a user
pub data Matches (s : Setting) (past : Run) (number : ℕ) (user : List ℕ) (conv : ℕ) : Type 0 where
  -- a p9sk1 client whose holder is the host of the grant, one of its speakers: it opened a ticket with the grant's
  -- key, its challenge and this user, and gave the ticket that it had with it and its authenticator
  client_matches : {sealer : Option (List ℕ)} {handed : Tree} {cuid : List ℕ} {before : List Move} {gave : Run}
      → s.role conv ≡ client →
      (s.grants number).used ≡ keys sealer (Some (s.holder conv))
      → Contains (s.grants number).speakers (s.holder conv) →
      moves_of conv gave ≡ hears
      (tickets (seal (long_key (s.holder conv))
      (ticket for_client (s.grants number).chal cuid user (ticket_key number))) handed) ∷ before →
      Stands past gave (moves conv (gives (client_message handed (ticket_key number) (s.grants number).chal))) →
      Matches s past number user conv
  -- a mail client whose holder's password was used for the grant: it gave its digest of the challenge, a right
  -- answer to which the grant vouches for
  mail_client_matches : {kind : MacKind} {sealer : Option (List ℕ)} {session first : ℕ} {granted gave : Run}
      → s.role conv ≡ mail_client kind →
      (s.grants number).used ≡ key_and_password sealer (s.holder conv) →
      Stands past granted (serves session (gives_vouch kind number first)) →
      Stands past gave (moves conv (gives (digest kind (password (s.holder conv)) (mail_challenge s.domain first)))) →
      Matches s past number user conv

-- a grant and a user have a match before this place: a conversation whose holder is the name of the host's key, or of
-- the password, that was used for the grant
pub record IsMatched (s : Setting) (past : Run) (number : ℕ) (user : List ℕ) : Type 0 where
  pub conv : ℕ
  pub matches : Matches s past number user conv
  pub holder : client_name (s.grants number).used ≡ Some (s.holder conv)

-- a p9sk1 client accepts, at a place of a run
pub record ClientAcceptance (s : Setting) (run : Run) : Type 0 where
  pub conv : ℕ
  pub user : List ℕ
  pub past : Run
  pub stands : Stands run past (moves conv (accepts user))
  pub by_a_client : s.role conv ≡ client

-- it accepts under a grant where the ticket that it opened holds the key of that grant
pub record IsClientUnder (s : Setting) (run : Run) (a : ClientAcceptance s run) (number : ℕ) : Type 0 where
  pub proof : Tree
  pub gift : Tree
  pub chal : Tree
  pub cuid : List ℕ
  pub suid : List ℕ
  pub handed : Tree
  pub before : List Move
  pub opened : moves_of a.conv a.past ≡ takes proof ∷ gives gift
      ∷ hears (tickets (seal (long_key (s.holder a.conv))
      (ticket for_client chal cuid suid (ticket_key number))) handed) ∷ before

-- before a client accepts, a server answered it: its holder is the name whose key sealed the grant's ticket for the
-- server, it accepted by that very ticket, and it gave its authenticator for this client's word under the grant's key
pub record IsAnswered (s : Setting) (run : Run) (a : ClientAcceptance s run) (number : ℕ) : Type 0 where
  pub conv : ℕ
  pub by_a_server : s.role conv ≡ server
  pub sealed_for : server_name (s.grants number).used ≡ Some (s.holder conv)
  pub for_the_server : Tree
  pub granted : IsGranted s a.past number for_the_server
  pub user : List ℕ
  pub proof : Tree
  pub before : List Move
  pub gave : Run
  pub opened : moves_of conv gave ≡ accepts user ∷ takes (pair for_the_server proof) ∷ before
  pub answered : Stands a.past gave (moves conv (gives (server_message (ticket_key number) (nonce a.conv))))

-- a client accepts under a grant of tickets that was made before, the host of which is its holder
pub record IsHost (s : Setting) (run : Run) (a : ClientAcceptance s run) (number : ℕ) : Type 0 where
  pub under : IsClientUnder s run a number
  pub sealer : Option (List ℕ)
  pub used : (s.grants number).used ≡ keys sealer (Some (s.holder a.conv))
  pub past : Run
  pub session : ℕ
  pub granted : Stands a.past past (serves session (gives_tickets number))
