-- What it means that the two ends of a login agree, of a labelled history of real bytes: on which grant a server
-- accepted a user, which conversation of the user's client took part, and which server answered a client (Lowe, A
-- Hierarchy of Authentication Specifications, 1997). A place of a history is told by what stands before it. What a
-- conversation took and gave is told by labels, move by move. The user whom a server accepts is the field of the
-- ticket.
use Rattle.std.specs.Prelude.{◌≡◌, ℕ, List, [], ◌∷◌, ◌++◌, length, Contains, true, Option, Some, None, Ok, ◌==◌, if◌then◌else◌}
use Rattle.std.specs.Str.{bytes_eq}
use Rattle.sealing.specs.declared.request.TicketReq.{TicketReq}
use Rattle.sealing.specs.Request.{request_of}
use Rattle.auth_server.specs.Requests.{kind_of}
use Rattle.symbolic_runs.specs.declared.kind.MacKind.{MacKind}
use Rattle.symbolic_runs.specs.Trees.{Tree, nonce, long_key, ticket_key, password, seal, digest}
use Rattle.wire_histories.specs.declared.step.Step.{Step}
use Rattle.wire_histories.specs.declared.step.Step.TheVariants.{Start, Out, Accept, AsGot, AsGave}
use Rattle.symbolic_runs.specs.Forms.{for_server, for_client, pair, ticket, tickets, client_message, server_message, mail_challenge}
use Rattle.symbolic_runs.specs.Moves.{Role, client, server, mail_client, Move, takes, hears, gives, accepts, Own}
use Rattle.symbolic_runs.specs.Sessions.{Grant, keys, key_and_password, held, ticket_for_server, vouched_ticket}
use Rattle.symbolic_runs.specs.Runs.{given as labels_given}
use Rattle.symbolic_runs.specs.Agreement.{is_server, server_name, client_name, Shows}
use Rattle.wire_histories.specs.Histories.{History, reloads_in, requested}
use Rattle.wire_histories.specs.Legal.{Setting}
use Rattle.clean_runs.specs.KeyNames.{key_name, speakers}
use Rattle.clean_runs.specs.Labels.{Labelling, Dealt, dealt, labelled, requests_in}
use Rattle.clean_runs.specs.Runs.{accepted_field, deeds_by, events_of, grant_by, mail_kind, moves_by, number_of, role_by, setting_of}

-- in a history a step stands right behind this past
pub record Happens (history past : History) (step : Step) : Type 0 where
  pub later : History
  pub place : history ≡ later ++ step ∷ past

-- ---- conversations

-- the role with which a conversation started
abbrev pub plays : List ℕ → History → Option Role
plays name [] = None
plays name (Start conv protocol role word ∷ past) =
    if bytes_eq conv name then Some (role_by protocol role)
    else plays name past
plays name (step ∷ past) = plays name past

-- what it has of its own, and what it did by its labels, move by move
abbrev pub own_in : Labelling → List ℕ → History → Own
own_in l conv past = record {
  word = nonce (number_of conv past);
  key = long_key (l.holder conv);
  password = password (l.holder conv);
}

abbrev pub moves_in : Labelling → Role → List ℕ → History → List Move
moves_in l role conv past = moves_by (own_in l conv past) role (labelled l conv past)

-- the labels of what a step gives
abbrev pub gives_labels : History → Setting → Labelling → History → Step → List Tree
gives_labels history z l past step =
    labels_given (setting_of z l history) (events_of (setting_of z l history) l past step)

-- ---- grants

-- a grant was made: the authentication server answered the request of this number by tickets, or vouched for a right
-- answer
pub record IsMade (history : History) (z : Setting) (l : Labelling) (number : ℕ) : Type 0 where
  pub session : List ℕ
  -- the request, and where it came
  pub request : List ℕ
  pub words : List (List ℕ)
  pub asked : History
  pub came : Happens history asked (AsGot session request words)
  pub numbered : requests_in asked ≡ number
  pub read : TicketReq
  pub is_read : request_of request ≡ Ok read
  -- the answer, and where it was given: behind this request of its session
  pub message : ℕ
  pub reply : List ℕ
  pub past : History
  pub answered : Happens history past (AsGave message session reply)
  pub ok : kind_of reply ≡ 4
  pub older : List Dealt
  pub newest : dealt l session past
      ≡ record {
        deal = requested (reloads_in asked) request words;
        number = number;
        label = l.label (length asked);
      } ∷ older

-- the number of the tables that were in force when its request came
abbrev pub tables_of : {history : History} {z : Setting} {l : Labelling} {number : ℕ} → IsMade history z l number → ℕ
tables_of made = reloads_in made.asked

-- what it used, who may speak for its user, and what its tickets hold
abbrev pub granted : {history : History} {z : Setting} {l : Labelling} {number : ℕ} → IsMade history z l number → Grant
granted {z} {l} made = grant_by z (tables_of made) (Ok made.read) (l.label (length made.asked))

-- its ticket for the server
abbrev pub server_ticket : {history : History} {z : Setting} {l : Labelling} {number : ℕ} → IsMade history z l number
    → Tree
server_ticket {number} made =
    if made.read.kind == 1 then ticket_for_server (granted made) number
    else vouched_ticket (granted made) number

-- ---- servers

-- a server accepts a user, at a place of a history
pub record Acceptance (history : History) : Type 0 where
  pub conv : List ℕ
  pub cuid : List ℕ
  pub suid : List ℕ
  pub past : History
  pub happens : Happens history past (Accept conv cuid suid)
  pub role : Role
  pub plays : plays conv past ≡ Some role
  pub by_a_server : is_server role ≡ true

-- the user whom it accepts, and the ticket by which it does
abbrev pub user_of : {history : History} → Labelling → Acceptance history → List ℕ
user_of l a = accepted_field a.role (moves_in l a.role a.conv a.past)

abbrev pub IsByTicket : {history : History} → Labelling → Acceptance history → Tree → Type 0
IsByTicket l a shown = Shows a.role (moves_in l a.role a.conv a.past) shown

-- an acceptance is under a grant where the ticket by which the server accepts holds the key of that grant
pub record IsUnder {history : History} (l : Labelling) (a : Acceptance history) (number : ℕ) : Type 0 where
  pub key : Tree
  pub chal : Tree
  pub cuid : List ℕ
  pub suid : List ℕ
  pub by_ticket : IsByTicket l a (seal key (ticket for_server chal cuid suid (ticket_key number)))

-- an acceptance rests on a grant: it is under it, and the grant was made before; its ticket, by which the server
-- accepts, was sealed under the key of the server's holder, the key name of whom the request named, with the user
-- accepted and the conversation's own word as challenge
pub record IsGrantedTo {history : History} (z : Setting) (l : Labelling) (a : Acceptance history)
    (number : ℕ) : Type 0 where
  pub under : IsUnder l a number
  pub made : IsMade a.past z l number
  pub by_its_ticket : IsByTicket l a (server_ticket made)
  pub sealed_for : server_name (granted made).used ≡ Some (l.holder a.conv)
  pub named : key_name z.tables (tables_of made) made.read.authid ≡ l.holder a.conv
  pub user : (granted made).user ≡ user_of l a
  pub chal : (granted made).chal ≡ nonce (number_of a.conv a.past)

-- before this place a conversation matched a grant and a user
pub data Matches (history past : History) (z : Setting) (l : Labelling) {number : ℕ} (made : IsMade past z l number)
    (user conv : List ℕ) : Type 0 where
  -- a p9sk1 client whose holder is the key name of the grant's host, with whose key it was made and who may speak
  -- for its user: it opened a ticket with the grant's key, its challenge and this user, and gave the ticket that it
  -- had with it and its authenticator
  client_matches : {sealer : Option (List ℕ)} {message : ℕ} {b : List ℕ} {handed : Tree} {cuid : List ℕ} {before : List Move} {gave : History} →
      plays conv gave ≡ Some client → (granted made).used ≡ keys sealer (Some (l.holder conv))
      → Contains (speakers z (tables_of made) made.read.uid) (l.holder conv) →
      moves_in l client conv gave
      ≡ hears (tickets (seal (long_key (l.holder conv))
      (ticket for_client (granted made).chal cuid user (ticket_key number))) handed) ∷ before →
      Happens past gave (Out message conv b) →
      gives_labels history z l gave (Out message conv b) ≡ client_message handed (ticket_key number) (granted made).chal
      ∷ [] →
      Matches history past z l made user conv
  -- a mail client whose holder is the key name of the grant's user, whose password it was made with: it gave its
  -- digest of the challenge, a right answer to which the grant vouches for
  mail_client_matches : {sealer : Option (List ℕ)} {message first : ℕ} {b : List ℕ} {kind : MacKind} {gave : History} →
      plays conv gave ≡ Some (mail_client kind) → (granted made).used ≡ key_and_password sealer (l.holder conv) →
      held (deeds_by made.older) kind ≡ Some first → mail_kind made.request ≡ kind →
      Happens past gave (Out message conv b) →
      gives_labels history z l gave (Out message conv b)
      ≡ digest kind (password (l.holder conv)) (mail_challenge z.dom first) ∷ [] →
      Matches history past z l made user conv

-- a grant and a user have a match before this place
pub record IsMatched (history past : History) (z : Setting) (l : Labelling) {number : ℕ} (made : IsMade past z l number)
    (user : List ℕ) : Type 0 where
  pub conv : List ℕ
  pub matches : Matches history past z l made user conv
  pub holder : client_name (granted made).used ≡ Some (l.holder conv)

-- ---- clients

-- a p9sk1 client accepts, at a place of a history
pub record ClientAcceptance (history : History) : Type 0 where
  pub conv : List ℕ
  pub cuid : List ℕ
  pub suid : List ℕ
  pub past : History
  pub happens : Happens history past (Accept conv cuid suid)
  pub by_a_client : plays conv past ≡ Some client

-- it accepts under a grant where the ticket that it opened holds the key of that grant
pub record IsClientUnder {history : History} (l : Labelling) (a : ClientAcceptance history) (number : ℕ) : Type 0 where
  pub proof : Tree
  pub gift : Tree
  pub chal : Tree
  pub cuid : List ℕ
  pub suid : List ℕ
  pub handed : Tree
  pub before : List Move
  pub opened : moves_in l client a.conv a.past ≡ takes proof ∷ gives gift
      ∷ hears (tickets (seal (long_key (l.holder a.conv))
      (ticket for_client chal cuid suid (ticket_key number))) handed) ∷ before

-- before a client accepts, a server answered it: its holder is the key name of whom the grant's request named, and
-- that key sealed the ticket for the server; it accepted by that very ticket, and it gave its authenticator for this
-- client's word under the grant's key
pub record IsAnswered (history : History) (z : Setting) (l : Labelling) (a : ClientAcceptance history)
    (number : ℕ) : Type 0 where
  pub made : IsMade a.past z l number
  pub conv : List ℕ
  pub gave : History
  pub by_a_server : plays conv gave ≡ Some server
  pub sealed_for : server_name (granted made).used ≡ Some (l.holder conv)
  pub user : List ℕ
  pub proof : Tree
  pub before : List Move
  pub opened : moves_in l server conv gave ≡ accepts user ∷ takes (pair (server_ticket made) proof) ∷ before
  pub message : ℕ
  pub b : List ℕ
  pub happens : Happens a.past gave (Out message conv b)
  pub answered : gives_labels history z l gave (Out message conv b)
      ≡ server_message (ticket_key number) (nonce (number_of a.conv a.past)) ∷ []

-- a client accepts under a grant of tickets that was made before, the key name of whose host is its holder
pub record IsHost {history : History} (z : Setting) (l : Labelling) (a : ClientAcceptance history)
    (number : ℕ) : Type 0 where
  pub under : IsClientUnder l a number
  pub made : IsMade a.past z l number
  pub sealer : Option (List ℕ)
  pub used : (granted made).used ≡ keys sealer (Some (l.holder a.conv))
  pub host : key_name z.tables (tables_of made) made.read.hostid ≡ l.holder a.conv
