-- A login by APOP (RFC 1939), written out with all that it rests on: ann at the mail server srv, which has the
-- authentication server of the domain x give a challenge and vouch for her digits (authsrv(6) of the Plan 9 manual).
-- The random words, the keys and the passwords are any. It shows that records of such logins can be clean.
use Rattle.std.specs.Prelude.{ℕ, List, [], ◌∷◌, ◌++◌, codes, Option, Some, None, if◌then◌else◌, slice_get}
use Rattle.std.specs.Str.{bytes_eq}
use Rattle.hex.specs.Hex.{encode_lower}
use Rattle.sealing.specs.Answer.{apop_digits}
use Rattle.sealing.specs.Sealing.{sealed}
use Rattle.wire_base.specs.Names.{name_field}
use Rattle.roles.specs.declared.key.SkKey.{SkKey}
use Rattle.roles.specs.Talks.{found}
use Rattle.symbolic_runs.specs.declared.kind.MacKind.TheVariants as mac
use Rattle.symbolic_runs.specs.Trees.{Tree, plain, nonce, challenge, long_key, ticket_key, junk_key, password, seal, digest}
use Rattle.symbolic_runs.specs.Spellings.{Atoms}
use Rattle.symbolic_runs.specs.Forms.{Fields, authenticator, by_client, for_server, mail_challenge, mail_request, pair, request, ticket, vouch}
use Rattle.wire_histories.specs.declared.step.Step.TheVariants.{Start as Starts, Out, In, Ask, Heard, Accept, AsGot, AsGave}
use Rattle.wire_histories.specs.declared.step.Protocol.TheVariants.{Apop}
use Rattle.wire_histories.specs.declared.step.Role.TheVariants.{Client, Server as Serves}
use Rattle.wire_histories.specs.Histories.{History}
use Rattle.wire_histories.specs.Legal.{Setting, Spoken, Tables}
use Rattle.clean_runs.specs.Labels.{Labelling}
use Rattle.clean_runs.specs.Login.{Word, ann, conv_c, conv_s, key_bytes, key_of, name_28, session_r, srv, start_as, tree_at, user_key, word_bytes}

-- ---- what is drawn and known

-- the words of the server and of the client, which doesn't use its own; three of each request; the keys and the
-- passwords of ann and srv
pub record Secrets : Type 0 where
  pub server : Word
  pub client : Word
  pub first : Word
  pub second : Word
  pub third : Word
  pub fourth : Word
  pub fifth : Word
  pub sixth : Word
  pub ann_key : Word
  pub srv_key : Word
  pub ann_password : List ℕ
  pub srv_password : List ℕ

-- the words of the request for a challenge, and of the one that has the digits checked
abbrev pub first_words : Secrets → List (List ℕ)
first_words k = word_bytes k.first ∷ word_bytes k.second ∷ word_bytes k.third ∷ []

abbrev pub then_words : Secrets → List (List ℕ)
then_words k = word_bytes k.fourth ∷ word_bytes k.fifth ∷ word_bytes k.sixth ∷ []

-- ---- the record

-- the server's request about a user
abbrev pub request_bytes : List ℕ → Secrets → List ℕ
request_bytes user k = 7 ∷ name_28 srv ++
    (name_field 48 (codes "x") ++ (word_bytes k.server ++ (name_28 srv ++ name_28 user)))

-- the challenge, and how the authentication server gives it: behind a byte and its length in five
abbrev pub challenge_bytes : Secrets → List ℕ
challenge_bytes k = codes "<" ++ (encode_lower (word_bytes k.first) ++ codes "@x>")

abbrev pub head : List ℕ
head = 9 ∷ codes "20   "

abbrev pub given_bytes : Secrets → List ℕ
given_bytes k = head ++ challenge_bytes k

-- ann's digits, and the server's second request, which has them behind it
abbrev pub digits : Secrets → List ℕ
digits k = apop_digits (challenge_bytes k) k.ann_password

abbrev pub checked_bytes : Secrets → List ℕ
checked_bytes k = request_bytes ann k ++ digits k

-- what vouches for her: a ticket for the server, and an authenticator under its key
abbrev pub ticket_bytes : Secrets → List ℕ
ticket_bytes k = sealed (key_bytes k.srv_key)
    (64 ∷ word_bytes k.server ++ (name_28 ann ++ (name_28 ann ++ key_bytes k.fourth)))

abbrev pub proof_bytes : Secrets → List ℕ
proof_bytes k = sealed (key_bytes k.fourth) (67 ∷ word_bytes k.server ++ 0 ∷ 0 ∷ 0 ∷ 0 ∷ [])

abbrev pub vouch_bytes : Secrets → List ℕ
vouch_bytes k = 4 ∷ ticket_bytes k ++ proof_bytes k

-- the steps, the newest first: the conversation s is srv's, c is ann's, and r the session of the authentication
-- server
abbrev pub login : Secrets → History
login k =
    Accept conv_s ann ann
    ∷ Heard conv_s (vouch_bytes k)
    ∷ AsGave 5 session_r (vouch_bytes k)
    ∷ AsGot session_r (checked_bytes k) (then_words k)
    ∷ Ask 4 conv_s (checked_bytes k)
    ∷ In conv_s (digits k)
    ∷ In conv_s ann
    ∷ Out 3 conv_c (digits k)
    ∷ In conv_c (challenge_bytes k)
    ∷ Starts conv_c Apop Client (word_bytes k.client)
    ∷ Out 2 conv_s (challenge_bytes k)
    ∷ Heard conv_s (given_bytes k)
    ∷ AsGave 1 session_r (given_bytes k)
    ∷ AsGot session_r (request_bytes [] k) (first_words k)
    ∷ Ask 0 conv_s (request_bytes [] k)
    ∷ Starts conv_s Apop Serves (word_bytes k.server)
    ∷ []

-- ---- its setting

abbrev pub tables : Secrets → Tables
tables k = record {
  keys = (ann, user_key k.ann_key k.ann_password) ∷ (srv, user_key k.srv_key k.srv_password) ∷ [];
  speaks = [];
}

-- ann's key of apop has no domain
abbrev pub mail_key : Secrets → SkKey
mail_key k = record { des = record { 0 = key_bytes k.ann_key }; user = ann; dom = [] }

abbrev pub spoken_c : Secrets → Spoken
spoken_c k = record {
  node = codes "a";
  start = start_as (codes "apop") (codes "client") k.client;
  met = found (mail_key k) (Some k.ann_password) ∷ [];
  key = Some (mail_key k, Some k.ann_password);
}

abbrev pub spoken_s : Secrets → Spoken
spoken_s k = record {
  node = codes "b";
  start = start_as (codes "apop") (codes "server") k.server;
  met = found (key_of srv k.srv_key) (Some k.srv_password) ∷ [];
  key = Some (key_of srv k.srv_key, Some k.srv_password);
}

abbrev pub spoken : Secrets → List ℕ → Option Spoken
spoken k name =
    if bytes_eq conv_c name then Some (spoken_c k)
    else if bytes_eq conv_s name then Some (spoken_s k)
    else None

abbrev pub setting : Secrets → Setting
setting k = record { spoken = spoken k; dom = codes "x"; tables = tables k ∷ [] }

-- ---- its reading, and its labelling

abbrev pub reading : Secrets → Atoms
reading k =
    (nonce 0, word_bytes k.server)
    ∷ (challenge 0, encode_lower (word_bytes k.first))
    ∷ (ticket_key 0, key_bytes k.first)
    ∷ (junk_key 0, key_bytes k.second)
    ∷ (junk_key 1, key_bytes k.third)
    ∷ (challenge 1, encode_lower (word_bytes k.fourth))
    ∷ (ticket_key 1, key_bytes k.fourth)
    ∷ (junk_key 2, key_bytes k.fifth)
    ∷ (junk_key 3, key_bytes k.sixth)
    ∷ (long_key ann, key_bytes k.ann_key)
    ∷ (long_key srv, key_bytes k.srv_key)
    ∷ (password ann, k.ann_password)
    ∷ (password srv, k.srv_password)
    ∷ []

abbrev pub fields : List ℕ → Fields
fields user = record {
  authid = name_28 srv;
  authdom = name_field 48 (codes "x");
  hostid = name_28 srv;
  uid = name_28 user;
}

-- the challenge, ann's digits for it, the request about a user, and what vouches for her
abbrev pub challenged : Tree
challenged = mail_challenge (codes "x") 0

abbrev pub answering : Tree
answering = digest mac.Apop (password ann) challenged

abbrev pub request_about : List ℕ → Tree
request_about user = request (mail_request mac.Apop) (fields user) (nonce 0)

abbrev pub vouching : Tree
vouching = vouch (seal (long_key srv) (ticket for_server (nonce 0) (name_28 ann) (name_28 ann) (ticket_key 1)))
    (seal (ticket_key 1) (authenticator by_client (nonce 0)))

-- the trees of what is taken, by their places
abbrev pub trees : List (Option Tree)
trees =
    None ∷ None
    ∷ Some (request_about []) ∷ None
    ∷ Some (pair (plain head) challenged) ∷ None ∷ None
    ∷ Some challenged ∷ None
    ∷ Some (plain ann)
    ∷ Some answering ∷ None
    ∷ Some (pair (request_about ann) answering) ∷ None
    ∷ Some vouching ∷ None
    ∷ []

-- nobody is compromised; ann's password is the client's, srv's key the server's
abbrev pub labelling : Labelling
labelling = record {
  compromised = [];
  holder = λ name. if bytes_eq name conv_c then ann else srv;
  label = λ place. tree_at (slice_get trees place);
}
