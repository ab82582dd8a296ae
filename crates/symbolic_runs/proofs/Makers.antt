-- Who makes the seals and digests of logins: the rows that make a ticket for a server, one for a client, an authenticator of
-- either side, a mail client's digest.
use Rattle.std.proofs.Common.{◌≡◌, ℕ, [], ◌∷◌, List, refl, sym, ap, ◌∙◌, Option, Some, None, Contains, subst, subst₂, arith}
use Rattle.symbolic_runs.specs.declared.kind.MacKind.{MacKind}
use Rattle.symbolic_runs.specs.Trees.{Tree, nonce, long_key, ticket_key, password, seal, digest}
use Rattle.symbolic_runs.specs.Forms.{for_server, for_client, by_client, by_server, pair, ticket, authenticator, tickets, client_message, server_message}
use Rattle.symbolic_runs.specs.Moves.{client, server, mail_client, Move, takes, hears, gives, accepts}
use Rattle.symbolic_runs.specs.Sessions.{Used, keys, key_and_password, Deed, gives_tickets, gives_vouch, key_for_server, key_for_client, ticket_for_client, MaySpeak, SessionRow, comes, grants_tickets, challenges, vouches, refusal}
use Rattle.symbolic_runs.specs.Runs.{Setting, Event, moves, serves, Run, moves_of, deeds_of}
use Rattle.symbolic_runs.specs.Origins.{Seals, client_seals, server_seals, seals_for_client, seals_for_server, vouches_by_ticket, vouches_by_proof, Digests, client_digests}
use Rattle.symbolic_runs.proofs.FormLaws.{seal_parts, digest_parts, long_key_name, password_name, ticket_parts, authenticator_parts, ticket_is_no_authenticator}
use Rattle.symbolic_runs.specs.Agreement.{server_name, Grants, by_tickets, by_vouching}

-- the names behind the keys of a grant
sealed_by : (used : Used) (number : ℕ) (name : List ℕ) → key_for_server used number ≡ long_key name → server_name used ≡ Some name
sealed_by (keys (Some other) host) number name e = ap Some (long_key_name other name e)
sealed_by (keys None host) number name e = absurd (cc)
sealed_by (key_and_password (Some other) user) number name e = ap Some (long_key_name other name e)
sealed_by (key_and_password None user) number name e = absurd (cc)

hosted_by : (sealer host : Option (List ℕ)) (number : ℕ) (name : List ℕ) → key_for_client (keys sealer host) number ≡ long_key name → host ≡ Some name
hosted_by sealer (Some other) number name e = ap Some (long_key_name other name e)
hosted_by sealer None number name e = absurd (cc)

-- what a row that gives tickets stands on
pub record Ticketing (s : Setting) (number : ℕ) : Type 0 where
  pub sealer : Option (List ℕ)
  pub host : Option (List ℕ)
  pub used : (s.grants number).used ≡ keys sealer host
  pub speaks : MaySpeak (s.grants number).speakers host

pub ticketing : (s : Setting) (history : List Deed) (deed : Deed) (number : ℕ) → SessionRow s.domain s.grants history deed → deed ≡ gives_tickets number → Ticketing s number
ticketing s history deed number (comes idle) e = absurd (cc)
ticketing s history deed number (grants_tickets {number = n} fields sealer host whole used speaks) e =
    let same : n ≡ number = cc in
    subst (Ticketing s) same (record { sealer = sealer; host = host; used = used; speaks = speaks })
ticketing s history deed number (challenges fields whole free six) e = absurd (cc)
ticketing s history deed number (vouches fields sealer other whole used speaks holds) e = absurd (cc)
ticketing s history deed number refusal e = absurd (cc)

-- a ticket for a server
pub record ServerTicketMade (s : Setting) (event : Event) (name : List ℕ) (chal : Tree) (cuid suid : List ℕ) (key : Tree) : Type 0 where
  pub number : ℕ
  pub session : ℕ
  pub deed : Deed
  pub is : event ≡ serves session deed
  pub grants : Grants s number deed (seal (long_key name) (ticket for_server chal cuid suid key))
  pub key_is : key ≡ ticket_key number
  pub sealed_for : server_name (s.grants number).used ≡ Some name
  pub chal_is : (s.grants number).chal ≡ chal
  pub user_is : (s.grants number).user ≡ suid

-- the numbers of records differ
number_of : List ℕ → ℕ
number_of [] = 0
number_of (number ∷ rest) = number

no_server_kind : for_client ≡ for_server → ⊥
unfolding number_of
no_server_kind e = let numbers : number_of for_client ≡ number_of for_server = ap number_of e in absurd (omega arith)

no_client_kind : for_server ≡ for_client → ⊥
no_client_kind e = no_server_kind (sym e)

client_kind : by_client ≡ by_server → ⊥
unfolding number_of
client_kind e = let numbers : number_of by_client ≡ number_of by_server = ap number_of e in absurd (omega arith)

server_kind : by_server ≡ by_client → ⊥
server_kind e = client_kind (sym e)

pub server_ticket_made : (s : Setting) (past : Run) (event : Event) (t : Tree) (name : List ℕ) (chal : Tree) (cuid suid : List ℕ) (key : Tree) → Seals s past event t →
    t ≡ seal (long_key name) (ticket for_server chal cuid suid key) → ServerTicketMade s event name chal cuid suid key
server_ticket_made s past event t name chal cuid suid key (client_seals asked {chal = x} {key = k} c u before role m) e =
    absurd (ticket_is_no_authenticator for_server by_client chal x cuid suid key (sym (seal_parts k (long_key name) (authenticator by_client x) (ticket for_server chal cuid suid key) e).1))
server_ticket_made s past event t name chal cuid suid key (server_seals fields {y} {key = k} c u role m) e =
    absurd (ticket_is_no_authenticator for_server by_server chal y cuid suid key (sym (seal_parts k (long_key name) (authenticator by_server y) (ticket for_server chal cuid suid key) e).1))
server_ticket_made s past event t name chal cuid suid key (seals_for_client {session} {number} row) e =
    absurd (let g = s.grants number in let same = ticket_parts for_client for_server g.chal chal g.host cuid g.user suid (ticket_key number) key (seal_parts (key_for_client g.used number) (long_key name) (ticket for_client g.chal g.host g.user (ticket_key number)) (ticket for_server chal cuid suid key) e).1 in no_server_kind same.0)
server_ticket_made s past event t name chal cuid suid key (seals_for_server {session} {number} row) e =
    let g = s.grants number in
    let sealed = seal_parts (key_for_server g.used number) (long_key name) (ticket for_server g.chal g.host g.user (ticket_key number)) (ticket for_server chal cuid suid key) e in
    let same = ticket_parts for_server for_server g.chal chal g.host cuid g.user suid (ticket_key number) key sealed.1 in
    record {
      number = number;
      session = session;
      deed = gives_tickets number;
      is = refl;
      grants = subst (Grants s number (gives_tickets number)) e by_tickets;
      key_is = sym same.4;
      sealed_for = sealed_by g.used number name sealed.0;
      chal_is = same.1;
      user_is = same.3;
    }
server_ticket_made s past event t name chal cuid suid key (vouches_by_ticket {session} {number} {first} {kind} row) e =
    let g = s.grants number in
    let sealed = seal_parts (key_for_server g.used number) (long_key name) (ticket for_server g.chal g.user g.user (ticket_key number)) (ticket for_server chal cuid suid key) e in
    let same = ticket_parts for_server for_server g.chal chal g.user cuid g.user suid (ticket_key number) key sealed.1 in
    record {
      number = number;
      session = session;
      deed = gives_vouch kind number first;
      is = refl;
      grants = subst (Grants s number (gives_vouch kind number first)) e by_vouching;
      key_is = sym same.4;
      sealed_for = sealed_by g.used number name sealed.0;
      chal_is = same.1;
      user_is = same.3;
    }
server_ticket_made s past event t name chal cuid suid key (vouches_by_proof {session} {number} {first} {kind} row) e =
    let g = s.grants number in
    absurd (ticket_is_no_authenticator for_server by_client chal g.chal cuid suid key (sym (seal_parts (ticket_key number) (long_key name) (authenticator by_client g.chal) (ticket for_server chal cuid suid key) e).1))

-- a ticket for a client
pub record ClientTicketMade (s : Setting) (event : Event) (name : List ℕ) (chal : Tree) (suid : List ℕ) (key : Tree) : Type 0 where
  pub number : ℕ
  pub session : ℕ
  pub is : event ≡ serves session (gives_tickets number)
  pub key_is : key ≡ ticket_key number
  pub sealer : Option (List ℕ)
  pub used : (s.grants number).used ≡ keys sealer (Some name)
  pub speaks : Contains (s.grants number).speakers name
  pub chal_is : (s.grants number).chal ≡ chal
  pub user_is : (s.grants number).user ≡ suid

client_ticket_of : (s : Setting) (session number : ℕ) (name : List ℕ) (chal : Tree) (cuid suid : List ℕ) (key : Tree) → Ticketing s number →
    ticket_for_client (s.grants number) number ≡ seal (long_key name) (ticket for_client chal cuid suid key) → ClientTicketMade s (serves session (gives_tickets number)) name chal suid key
client_ticket_of s session number name chal cuid suid key row e =
    let g = s.grants number in
    let sealed = seal_parts (key_for_client g.used number) (long_key name) (ticket for_client g.chal g.host g.user (ticket_key number)) (ticket for_client chal cuid suid key) e in
    let same = ticket_parts for_client for_client g.chal chal g.host cuid g.user suid (ticket_key number) key sealed.1 in
    let host = hosted_by row.sealer row.host number name (subst (λ x. key_for_client x number ≡ long_key name) row.used sealed.0) in
    record {
      number = number;
      session = session;
      is = refl;
      key_is = sym same.4;
      sealer = row.sealer;
      used = subst (λ x. g.used ≡ keys row.sealer x) host row.used;
      speaks = subst (MaySpeak g.speakers) host row.speaks;
      chal_is = same.1;
      user_is = same.3;
    }

pub client_ticket_made : (s : Setting) (past : Run) (event : Event) (t : Tree) (name : List ℕ) (chal : Tree) (cuid suid : List ℕ) (key : Tree) → Seals s past event t →
    t ≡ seal (long_key name) (ticket for_client chal cuid suid key) → ClientTicketMade s event name chal suid key
client_ticket_made s past event t name chal cuid suid key (client_seals asked {chal = x} {key = k} c u before role m) e =
    absurd (ticket_is_no_authenticator for_client by_client chal x cuid suid key (sym (seal_parts k (long_key name) (authenticator by_client x) (ticket for_client chal cuid suid key) e).1))
client_ticket_made s past event t name chal cuid suid key (server_seals fields {y} {key = k} c u role m) e =
    absurd (ticket_is_no_authenticator for_client by_server chal y cuid suid key (sym (seal_parts k (long_key name) (authenticator by_server y) (ticket for_client chal cuid suid key) e).1))
client_ticket_made s past event t name chal cuid suid key (seals_for_client {session} {number} row) e =
    client_ticket_of s session number name chal cuid suid key (ticketing s (deeds_of session past) (gives_tickets number) number row refl) e
client_ticket_made s past event t name chal cuid suid key (seals_for_server {session} {number} row) e =
    absurd (let g = s.grants number in let same = ticket_parts for_server for_client g.chal chal g.host cuid g.user suid (ticket_key number) key (seal_parts (key_for_server g.used number) (long_key name) (ticket for_server g.chal g.host g.user (ticket_key number)) (ticket for_client chal cuid suid key) e).1 in no_client_kind same.0)
client_ticket_made s past event t name chal cuid suid key (vouches_by_ticket {session} {number} {first} {kind} row) e =
    absurd (let g = s.grants number in let same = ticket_parts for_server for_client g.chal chal g.user cuid g.user suid (ticket_key number) key (seal_parts (key_for_server g.used number) (long_key name) (ticket for_server g.chal g.user g.user (ticket_key number)) (ticket for_client chal cuid suid key) e).1 in no_client_kind same.0)
client_ticket_made s past event t name chal cuid suid key (vouches_by_proof {session} {number} {first} {kind} row) e =
    let g = s.grants number in
    absurd (ticket_is_no_authenticator for_client by_client chal g.chal cuid suid key (sym (seal_parts (ticket_key number) (long_key name) (authenticator by_client g.chal) (ticket for_client chal cuid suid key) e).1))

-- a client's authenticator: a p9sk1 client's own, or one with which the authentication server vouches
pub data ProofMade (s : Setting) (past : Run) (event : Event) (key chal : Tree) : Type 0 where
  by_a_client : (conv : ℕ) (handed : Tree) (cuid suid : List ℕ) (before : List Move) → s.role conv ≡ client →
      moves_of conv past ≡ hears (tickets (seal (long_key (s.holder conv)) (ticket for_client chal cuid suid key)) handed) ∷ before →
      event ≡ moves conv (gives (client_message handed key chal)) → ProofMade s past event key chal
  by_a_vouch : (session number first : ℕ) (kind : MacKind) → event ≡ serves session (gives_vouch kind number first) → key ≡ ticket_key number → (s.grants number).chal ≡ chal → ProofMade s past event key chal

pub proof_made : (s : Setting) (past : Run) (event : Event) (t key chal : Tree) → Seals s past event t → t ≡ seal key (authenticator by_client chal) → ProofMade s past event key chal
proof_made s past event t key chal (client_seals {conv} asked {chal = x} {key = k} {handed} c u before role m) e =
    let sealed = seal_parts k key (authenticator by_client x) (authenticator by_client chal) e in
    let same = authenticator_parts by_client by_client x chal sealed.1 in
    subst₂ (ProofMade s past event) sealed.0 same.1 (by_a_client conv handed c u _ role m refl)
proof_made s past event t key chal (server_seals fields {y} {key = k} c u role m) e =
    absurd (server_kind (authenticator_parts by_server by_client y chal (seal_parts k key (authenticator by_server y) (authenticator by_client chal) e).1).0)
proof_made s past event t key chal (seals_for_client {session} {number} row) e =
    absurd (let g = s.grants number in ticket_is_no_authenticator for_client by_client g.chal chal g.host g.user (ticket_key number) (seal_parts (key_for_client g.used number) key (ticket for_client g.chal g.host g.user (ticket_key number)) (authenticator by_client chal) e).1)
proof_made s past event t key chal (seals_for_server {session} {number} row) e =
    absurd (let g = s.grants number in ticket_is_no_authenticator for_server by_client g.chal chal g.host g.user (ticket_key number) (seal_parts (key_for_server g.used number) key (ticket for_server g.chal g.host g.user (ticket_key number)) (authenticator by_client chal) e).1)
proof_made s past event t key chal (vouches_by_ticket {session} {number} {first} {kind} row) e =
    absurd (let g = s.grants number in ticket_is_no_authenticator for_server by_client g.chal chal g.user g.user (ticket_key number) (seal_parts (key_for_server g.used number) key (ticket for_server g.chal g.user g.user (ticket_key number)) (authenticator by_client chal) e).1)
proof_made s past event t key chal (vouches_by_proof {session} {number} {first} {kind} row) e =
    let g = s.grants number in
    let sealed = seal_parts (ticket_key number) key (authenticator by_client g.chal) (authenticator by_client chal) e in
    by_a_vouch session number first kind refl (sym sealed.0) (authenticator_parts by_client by_client g.chal chal sealed.1).1

-- a server's authenticator
pub record AnswerMade (s : Setting) (past : Run) (event : Event) (key chal : Tree) : Type 0 where
  pub conv : ℕ
  pub cuid : List ℕ
  pub suid : List ℕ
  pub before : List Move
  pub role : s.role conv ≡ server
  pub opened : moves_of conv past ≡ accepts suid ∷ takes (pair (seal (long_key (s.holder conv)) (ticket for_server (nonce conv) cuid suid key)) (seal key (authenticator by_client (nonce conv)))) ∷ before
  pub is : event ≡ moves conv (gives (server_message key chal))

pub answer_made : (s : Setting) (past : Run) (event : Event) (t key chal : Tree) → Seals s past event t → t ≡ seal key (authenticator by_server chal) → AnswerMade s past event key chal
answer_made s past event t key chal (client_seals {conv} asked {chal = x} {key = k} {handed} c u before role m) e =
    absurd (client_kind (authenticator_parts by_client by_server x chal (seal_parts k key (authenticator by_client x) (authenticator by_server chal) e).1).0)
answer_made s past event t key chal (server_seals {conv} fields {y} {key = k} c u role m) e =
    let sealed = seal_parts k key (authenticator by_server y) (authenticator by_server chal) e in
    let same = authenticator_parts by_server by_server y chal sealed.1 in
    subst₂ (AnswerMade s past event) sealed.0 same.1 (record { conv = conv; cuid = c; suid = u; before = _; role = role; opened = m; is = refl })
answer_made s past event t key chal (seals_for_client {session} {number} row) e =
    absurd (let g = s.grants number in ticket_is_no_authenticator for_client by_server g.chal chal g.host g.user (ticket_key number) (seal_parts (key_for_client g.used number) key (ticket for_client g.chal g.host g.user (ticket_key number)) (authenticator by_server chal) e).1)
answer_made s past event t key chal (seals_for_server {session} {number} row) e =
    absurd (let g = s.grants number in ticket_is_no_authenticator for_server by_server g.chal chal g.host g.user (ticket_key number) (seal_parts (key_for_server g.used number) key (ticket for_server g.chal g.host g.user (ticket_key number)) (authenticator by_server chal) e).1)
answer_made s past event t key chal (vouches_by_ticket {session} {number} {first} {kind} row) e =
    absurd (let g = s.grants number in ticket_is_no_authenticator for_server by_server g.chal chal g.user g.user (ticket_key number) (seal_parts (key_for_server g.used number) key (ticket for_server g.chal g.user g.user (ticket_key number)) (authenticator by_server chal) e).1)
answer_made s past event t key chal (vouches_by_proof {session} {number} {first} {kind} row) e =
    let g = s.grants number in
    absurd (client_kind (authenticator_parts by_client by_server g.chal chal (seal_parts (ticket_key number) key (authenticator by_client g.chal) (authenticator by_server chal) e).1).0)

-- a mail client's digest
pub record DigestMade (s : Setting) (past : Run) (event : Event) (kind : MacKind) (name : List ℕ) (text : Tree) : Type 0 where
  pub conv : ℕ
  pub role : s.role conv ≡ mail_client kind
  pub holder : name ≡ s.holder conv
  pub is : event ≡ moves conv (gives (digest kind (password name) text))

pub digest_made : (s : Setting) (past : Run) (event : Event) (t : Tree) (kind : MacKind) (name : List ℕ) (text : Tree) → Digests s past event t → t ≡ digest kind (password name) text → DigestMade s past event kind name text
digest_made s past event t kind name text (client_digests {conv} {kind = k} {t = x} role m) e =
    let same = digest_parts k kind (password (s.holder conv)) (password name) x text e in
    record { conv = conv; role = role ∙ ap mail_client same.0; holder = sym (password_name (s.holder conv) name same.1); is = rw (same.0, same.1, same.2) refl }
