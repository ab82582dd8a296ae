-- What an authentication server answers, as trees (authsrv(6) of the Plan 9 manual). A session holds the challenge that
-- it gave until a right answer or a challenge of the other kind, so that one challenge has at most one right answer.
use Rattle.std.specs.Prelude.{◌≡◌, ℕ, ◌+◌, ◌*◌, List, [], ◌∷◌, length, Contains, Bool, true, false, Option, Some, None, if◌then◌else◌}
use Rattle.symbolic_runs.specs.declared.kind.MacKind.{MacKind}
use Rattle.symbolic_runs.specs.Trees.{Tree, plain, long_key, ticket_key, junk_key, password, seal, digest, same_kind}
use Rattle.symbolic_runs.specs.Forms.{ticket_request, for_server, for_client, by_client, mail_request, Fields, AreFields, pair, request, ticket, authenticator, tickets, vouch, mail_challenge}

-- what was used at a request: the names whose keys seal the tickets for the server and the client, or the name whose
-- key seals the ticket for the server and the name of the password; no name where the key was made up
pub data Used : Type 0 where
  keys : Option (List ℕ) → Option (List ℕ) → Used
  key_and_password : Option (List ℕ) → List ℕ → Used

-- what a request used, the names that may speak for its user, and what its tickets hold: the challenge, and the fields
-- of the host's and of the user's name
pub record Grant : Type 0 where
  pub used : Used
  pub speakers : List (List ℕ)
  pub chal : Tree
  pub host : List ℕ
  pub user : List ℕ

pub data Deed : Type 0 where
  -- a request came, under this number
  got : ℕ → Tree → Deed
  -- tickets for this request
  gives_tickets : ℕ → Deed
  -- a challenge, behind these bytes
  gives_challenge : MacKind → ℕ → List ℕ → Deed
  -- at this request a right answer is vouched for: an answer to the challenge that was given at that request
  gives_vouch : MacKind → ℕ → ℕ → Deed
  -- anything else is answered by these bytes
  refuses : ℕ → List ℕ → Deed

-- the key of a name, or one made up
abbrev pub server_key : Option (List ℕ) → ℕ → Tree
server_key (Some name) number = long_key name
server_key None number = junk_key (2 * number)

abbrev pub client_key : Option (List ℕ) → ℕ → Tree
client_key (Some name) number = long_key name
client_key None number = junk_key (2 * number + 1)

-- the key of the server's ticket at a request
abbrev pub key_for_server : Used → ℕ → Tree
key_for_server (keys server client) number = server_key server number
key_for_server (key_and_password server name) number = server_key server number

abbrev pub key_for_client : Used → ℕ → Tree
key_for_client (keys server client) number = client_key client number
key_for_client (key_and_password server name) number = junk_key (2 * number + 1)

-- the tickets of a request, and what vouches for a right answer: a ticket, and an authenticator under its key
abbrev pub ticket_for_client : Grant → ℕ → Tree
ticket_for_client grant number =
    seal (key_for_client grant.used number) (ticket for_client grant.chal grant.host grant.user (ticket_key number))

abbrev pub ticket_for_server : Grant → ℕ → Tree
ticket_for_server grant number =
    seal (key_for_server grant.used number) (ticket for_server grant.chal grant.host grant.user (ticket_key number))

abbrev pub vouched_ticket : Grant → ℕ → Tree
vouched_ticket grant number =
    seal (key_for_server grant.used number) (ticket for_server grant.chal grant.user grant.user (ticket_key number))

abbrev pub vouched_proof : Grant → ℕ → Tree
vouched_proof grant number = seal (ticket_key number) (authenticator by_client grant.chal)

-- what is given by a deed
abbrev pub tickets_given : Grant → ℕ → Tree
tickets_given grant number = tickets (ticket_for_client grant number) (ticket_for_server grant number)

abbrev pub vouch_given : Grant → ℕ → Tree
vouch_given grant number = vouch (vouched_ticket grant number) (vouched_proof grant number)

abbrev pub deed_labels : List ℕ → (ℕ → Grant) → Deed → List Tree
deed_labels domain grants (got number t) = []
deed_labels domain grants (gives_tickets number) = tickets_given (grants number) number ∷ []
deed_labels domain grants (gives_challenge kind number head) = pair (plain head) (mail_challenge domain number) ∷ []
deed_labels domain grants (gives_vouch kind number first) = vouch_given (grants number) number ∷ []
deed_labels domain grants (refuses number bytes) = plain bytes ∷ []

-- the request whose challenge of a kind a session holds after its deeds, the newest first
abbrev pub held : List Deed → MacKind → Option ℕ
held [] kind = None
held (gives_challenge other number head ∷ before) kind = if same_kind other kind then Some number else None
held (gives_vouch other number first ∷ before) kind = None
held (deed ∷ before) kind = held before kind

-- whether every request of a session was answered
abbrev pub is_idle : List Deed → Bool
is_idle (got number t ∷ before) = false
is_idle deeds = true

-- a name that was used may speak for the user
abbrev pub MaySpeak : List (List ℕ) → Option (List ℕ) → Type 0
MaySpeak speakers (Some name) = Contains speakers name
MaySpeak speakers None = Unit

-- the next deed of a session after its deeds, the newest first
pub data SessionRow (domain : List ℕ) (grants : ℕ → Grant) : List Deed → Deed → Type 0 where
  comes : {before : List Deed} {number : ℕ} {t : Tree} → is_idle before ≡ true
      → SessionRow domain grants before (got number t)
  grants_tickets : {before : List Deed} {number : ℕ} (fields : Fields) (server client : Option (List ℕ))
      → AreFields fields →
      (grants number).used ≡ keys server client → MaySpeak (grants number).speakers client →
      SessionRow domain grants (got number (request ticket_request fields (grants number).chal) ∷ before)
      (gives_tickets number)
  challenges : {before : List Deed} {number : ℕ} (fields : Fields) {chal : Tree} {kind : MacKind} {head : List ℕ}
      → AreFields fields → held before kind ≡ None → length head ≡ 6 →
      SessionRow domain grants (got number (request (mail_request kind) fields chal) ∷ before)
      (gives_challenge kind number head)
  vouches : {before : List Deed} {number first : ℕ} (fields : Fields) {kind : MacKind} (server : Option (List ℕ))
      (name : List ℕ) → AreFields fields →
      (grants number).used ≡ key_and_password server name → Contains (grants number).speakers name
      → held before kind ≡ Some first →
      SessionRow domain grants
      (got number (pair (request (mail_request kind) fields (grants number).chal)
      (digest kind (password name) (mail_challenge domain first))) ∷ before) (gives_vouch kind number first)
  refusal : {before : List Deed} {number : ℕ} {t : Tree} {bytes : List ℕ}
      → SessionRow domain grants (got number t ∷ before) (refuses number bytes)
