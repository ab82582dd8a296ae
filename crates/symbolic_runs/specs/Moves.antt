-- What each move of a conversation takes and gives, as trees (authsrv(6) and factotum(4) of the Plan 9 manual; RFC 1939
-- and RFC 2195 for the digests). A row of the table tells the next move after all that the conversation did, the newest
-- first. What came may be anything; a row that goes on after it says what it must have been, which is what the tests of
-- that move ask. A given name may be any.
use Rattle.std.specs.Prelude.{◌≡◌, ℕ, List, [], ◌∷◌, length}
use Rattle.symbolic_runs.specs.declared.kind.MacKind.{MacKind}
use Rattle.symbolic_runs.specs.Trees.{Tree, plain, seal, digest}
use Rattle.symbolic_runs.specs.Forms.{ticket_request, for_server, for_client, by_client, mail_request, Fields, AreFields, name_text, pair, request, ticket, authenticator, tickets, client_message, server_message, vouch}

pub data Role : Type 0 where
  -- a p9sk1 client, for itself or speaking for another
  client : Role
  server : Role
  mail_client : MacKind → Role
  mail_server : MacKind → Role

pub data Move : Type 0 where
  -- a message came from the network
  takes : Tree → Move
  -- the authentication server's answer came
  hears : Tree → Move
  -- a message was given
  gives : Tree → Move
  -- a question for the authentication server was given
  asks : Tree → Move
  -- it accepted this user, by the ticket's field
  accepts : List ℕ → Move
  -- a test failed, and nothing follows
  fails : Move

-- what a conversation has of its own: its random word, the key of its holder and its holder's password
pub record Own : Type 0 where
  pub word : Tree
  pub key : Tree
  pub password : Tree

-- a ticket with whole names
pub record AreNames (cuid suid : List ℕ) : Type 0 where
  pub client_whole : length cuid ≡ 28
  pub server_whole : length suid ≡ 28

pub data Row (own : Own) : Role → List Move → Move → Type 0 where
  -- p9sk1's client: its challenge, the server's request, the question, the answer, the ticket handed on with an
  -- authenticator, the server's authenticator
  client_challenge : Row own client [] (gives own.word)
  client_request : {t : Tree} → Row own client (gives own.word ∷ []) (takes t)
  client_question : (fields asked : Fields) {chal : Tree} → AreFields fields →
      Row own client (takes (request ticket_request fields chal) ∷ gives own.word ∷ [])
      (asks (request ticket_request asked chal))
  client_answer : {q r w t : Tree} → Row own client (asks q ∷ takes r ∷ gives w ∷ []) (hears t)
  client_ticket : (asked : Fields) {chal key handed r w : Tree} {cuid suid : List ℕ} → AreNames cuid suid →
      Row own client (hears (tickets (seal own.key (ticket for_client chal cuid suid key)) handed)
      ∷ asks (request ticket_request asked chal) ∷ takes r ∷ gives w ∷ []) (gives (client_message handed key chal))
  client_proof : {g a q r w t : Tree} → Row own client (gives g ∷ hears a ∷ asks q ∷ takes r ∷ gives w ∷ []) (takes t)
  client_accepts : {chal key handed q r w : Tree} {cuid suid : List ℕ} →
      Row own client (takes (server_message key own.word) ∷ gives (client_message handed key chal)
      ∷ hears (tickets (seal own.key (ticket for_client chal cuid suid key)) handed) ∷ asks q ∷ takes r ∷ gives w
      ∷ []) (accepts suid)
  -- p9sk1's server: the client's challenge, the request, the ticket with an authenticator, its own authenticator
  server_challenge : {t : Tree} → Row own server [] (takes t)
  server_request : {y : Tree} (fields : Fields) →
      Row own server (takes y ∷ []) (gives (request ticket_request fields own.word))
  server_ticket : {y t : Tree} (fields : Fields) →
      Row own server (gives (request ticket_request fields own.word) ∷ takes y ∷ []) (takes t)
  server_accepts : {y key : Tree} (fields : Fields) {cuid suid : List ℕ} → AreNames cuid suid →
      Row own server (takes
      (pair (seal own.key (ticket for_server own.word cuid suid key)) (seal key (authenticator by_client own.word)))
      ∷ gives (request ticket_request fields own.word) ∷ takes y ∷ []) (accepts suid)
  server_proof : {y key : Tree} (fields : Fields) {cuid suid : List ℕ} →
      Row own server (accepts suid
      ∷ takes (pair (seal own.key (ticket for_server own.word cuid suid key))
      (seal key (authenticator by_client own.word))) ∷ gives (request ticket_request fields own.word) ∷ takes y
      ∷ []) (gives (server_message key y))
  -- a mail client: the challenge, and its digest
  mail_client_challenge : {kind : MacKind} {t : Tree} → Row own (mail_client kind) [] (takes t)
  mail_client_answer : {kind : MacKind} {t : Tree}
      → Row own (mail_client kind) (takes t ∷ []) (gives (digest kind own.password t))
  -- a mail server: the question for a challenge and its answer, the challenge handed on, the user, the digest, the
  -- question whether it is right and its answer
  mail_question : {kind : MacKind} (fields : Fields)
      → Row own (mail_server kind) [] (asks (request (mail_request kind) fields own.word))
  mail_answer : {kind : MacKind} {q t : Tree} → Row own (mail_server kind) (asks q ∷ []) (hears t)
  mail_challenge_on : {kind : MacKind} {q t : Tree} {head : List ℕ} → length head ≡ 6 →
      Row own (mail_server kind) (hears (pair (plain head) t) ∷ asks q ∷ []) (gives t)
  mail_user : {kind : MacKind} {q a t u : Tree} → Row own (mail_server kind) (gives t ∷ hears a ∷ asks q ∷ []) (takes u)
  mail_digest : {kind : MacKind} {q a t r : Tree} {user : List ℕ}
      → Row own (mail_server kind) (takes (plain user) ∷ gives t ∷ hears a ∷ asks q ∷ []) (takes r)
  mail_second_question : {kind : MacKind} {q a t r : Tree} {user : List ℕ} (fields : Fields) →
      Row own (mail_server kind) (takes r ∷ takes (plain user) ∷ gives t ∷ hears a ∷ asks q ∷ [])
      (asks (pair (request (mail_request kind) fields own.word) r))
  mail_second_answer : {kind : MacKind} {q a t r u v : Tree} {user : List ℕ} →
      Row own (mail_server kind) (asks v ∷ takes r ∷ takes (plain user) ∷ gives t ∷ hears a ∷ asks q ∷ []) (hears u)
  mail_accepts : {kind : MacKind} {q a t r key : Tree} {user cuid suid : List ℕ} (fields : Fields) → AreNames cuid suid
      → name_text cuid ≡ user → name_text suid ≡ user →
      Row own (mail_server kind)
      (hears (vouch (seal own.key (ticket for_server own.word cuid suid key))
      (seal key (authenticator by_client own.word))) ∷ asks (pair (request (mail_request kind) fields own.word) r)
      ∷ takes r ∷ takes (plain user) ∷ gives t ∷ hears a ∷ asks q ∷ []) (accepts suid)
  -- a test failed behind what came, or none followed: nothing comes behind this
  breaks : {role : Role} {before : List Move} → Row own role before fails
