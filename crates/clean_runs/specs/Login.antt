-- A login that p9any chooses, written out with all that it rests on: ann at srv, in the domain x, by p9sk1
-- (authsrv(6) and factotum(4) of the Plan 9 manual). The random words, the keys and the passwords are any; what
-- stands in the messages of them is what these are. It shows that records can be clean.
use Rattle.std.specs.Prelude.{◌≡◌, ℕ, List, [], ◌∷◌, ◌++◌, codes, Option, Some, None, option_map, if◌then◌else◌, slice_get}
use Rattle.std.specs.Str.{bytes_eq}
use Rattle.hex.specs.Hex.{encode_lower}
use Rattle.sealing.specs.Sealing.{sealed}
use Rattle.wire_base.specs.Names.{name_field}
use Rattle.auth_tables.specs.Keys.{UserKey}
use Rattle.roles.specs.declared.key.SkKey.{SkKey}
use Rattle.roles.specs.Starts.{Start, start_with}
use Rattle.roles.specs.Talks.{found, offered, picked}
use Rattle.roles.specs.Templates.{given_as}
use Rattle.symbolic_runs.specs.Trees.{Tree, plain, nonce, challenge, long_key, ticket_key, junk_key, password, seal}
use Rattle.symbolic_runs.specs.Spellings.{Atoms}
use Rattle.symbolic_runs.specs.Forms.{Fields, client_message, for_client, for_server, request, server_message, ticket, ticket_request, tickets}
use Rattle.wire_histories.specs.declared.step.Step.TheVariants.{Start as Starts, Out, In, Ask, Heard, Accept, AsGot, AsGave}
use Rattle.wire_histories.specs.declared.step.Protocol.TheVariants.{P9any}
use Rattle.wire_histories.specs.declared.step.Role.TheVariants.{Client, Server as Serves}
use Rattle.wire_histories.specs.Histories.{History}
use Rattle.wire_histories.specs.Legal.{Setting, Spoken, Tables}
use Rattle.clean_runs.specs.Labels.{Labelling}

-- ---- what is drawn and known

-- a random word, and a key
pub record Word : Type 0 where
  pub a : ℕ
  pub b : ℕ
  pub c : ℕ
  pub d : ℕ
  pub e : ℕ
  pub f : ℕ
  pub g : ℕ
  pub h : ℕ

abbrev pub word_bytes : Word → List ℕ
word_bytes w = w.a ∷ w.b ∷ w.c ∷ w.d ∷ w.e ∷ w.f ∷ w.g ∷ w.h ∷ []

-- the key that a word stands for
abbrev pub key_bytes : Word → List ℕ
key_bytes w = w.a ∷ w.b ∷ w.c ∷ w.d ∷ w.e ∷ w.f ∷ w.g ∷ []

-- the words of the client, of the server, and of the one request; the keys and passwords of ann and srv, a key being
-- the first seven bytes of eight
pub record Secrets : Type 0 where
  pub client : Word
  pub server : Word
  pub first : Word
  pub second : Word
  pub third : Word
  pub ann_key : Word
  pub srv_key : Word
  pub ann_password : List ℕ
  pub srv_password : List ℕ

abbrev pub ann : List ℕ
ann = codes "ann"

abbrev pub srv : List ℕ
srv = codes "srv"

-- ---- the record

abbrev pub name_28 : List ℕ → List ℕ
name_28 name = name_field 28 name

-- the server's request, and the client's question
abbrev pub request_bytes : List ℕ → Secrets → List ℕ
request_bytes user k = 1 ∷ name_28 srv ++
    (name_field 48 (codes "x") ++ (word_bytes k.server ++ (name_28 user ++ name_28 user)))

-- a ticket: of a number, sealed under a key
abbrev pub ticket_bytes : ℕ → Word → Secrets → List ℕ
ticket_bytes number key k =
    sealed (key_bytes key) (number ∷ word_bytes k.server ++ (name_28 ann ++ (name_28 ann ++ key_bytes k.first)))

-- an authenticator: of a number, over a challenge
abbrev pub proof_bytes : ℕ → Word → Secrets → List ℕ
proof_bytes number chal k = sealed (key_bytes k.first) (number ∷ word_bytes chal ++ 0 ∷ 0 ∷ 0 ∷ 0 ∷ [])

abbrev pub answer_bytes : Secrets → List ℕ
answer_bytes k = 4 ∷ ticket_bytes 65 k.ann_key k ++ ticket_bytes 64 k.srv_key k

abbrev pub shown_bytes : Secrets → List ℕ
shown_bytes k = ticket_bytes 64 k.srv_key k ++ proof_bytes 67 k.server k

abbrev pub offer_bytes : List ℕ
offer_bytes = codes "p9sk1@x" ++ 0 ∷ []

abbrev pub choice_bytes : List ℕ
choice_bytes = codes "p9sk1 x" ++ 0 ∷ []

abbrev pub conv_c : List ℕ
conv_c = codes "c"

abbrev pub conv_s : List ℕ
conv_s = codes "s"

abbrev pub session_r : List ℕ
session_r = codes "r"

-- the steps, the newest first: the conversation c is ann's client, s is srv, and r the session of the authentication
-- server
abbrev pub login : Secrets → History
login k =
    Accept conv_c ann ann
    ∷ In conv_c (proof_bytes 66 k.client k)
    ∷ Out 7 conv_s (proof_bytes 66 k.client k)
    ∷ Accept conv_s ann ann
    ∷ In conv_s (shown_bytes k)
    ∷ Out 6 conv_c (shown_bytes k)
    ∷ Heard conv_c (answer_bytes k)
    ∷ AsGave 5 session_r (answer_bytes k)
    ∷ AsGot session_r (request_bytes ann k) (word_bytes k.first ∷ word_bytes k.second ∷ word_bytes k.third ∷ [])
    ∷ Ask 4 conv_c (request_bytes ann k)
    ∷ In conv_c (request_bytes [] k)
    ∷ Out 3 conv_s (request_bytes [] k)
    ∷ In conv_s (word_bytes k.client)
    ∷ Out 2 conv_c (word_bytes k.client)
    ∷ In conv_s choice_bytes
    ∷ Out 1 conv_c choice_bytes
    ∷ In conv_c offer_bytes
    ∷ Out 0 conv_s offer_bytes
    ∷ Starts conv_s P9any Serves (word_bytes k.server)
    ∷ Starts conv_c P9any Client (word_bytes k.client)
    ∷ []

-- ---- its setting

abbrev pub user_key : Word → List ℕ → UserKey
user_key key secret = record { des = key_bytes key; password = Some secret }

abbrev pub tables : Secrets → Tables
tables k = record {
  keys = (ann, user_key k.ann_key k.ann_password) ∷ (srv, user_key k.srv_key k.srv_password) ∷ [];
  speaks = [];
}

-- what both start by: a protocol in a role, with a word
abbrev pub start_as : List ℕ → List ℕ → Word → Start
start_as protocol role word = start_with (given_as (codes "proto") protocol ∷ given_as (codes "role") role
    ∷ []) (word_bytes word)

-- the key of a user in the domain
abbrev pub key_of : List ℕ → Word → SkKey
key_of user key = record { des = record { 0 = key_bytes key }; user = user; dom = codes "x" }

-- the client picks the first domain that is offered and finds ann's key; the server has one offer and finds srv's key
abbrev pub spoken_c : Secrets → Spoken
spoken_c k = record {
  node = codes "a";
  start = start_as (codes "p9any") (codes "client") k.client;
  met = found (key_of ann k.ann_key) (Some k.ann_password) ∷ picked 0 ∷ [];
  key = Some (key_of ann k.ann_key, Some k.ann_password);
}

abbrev pub spoken_s : Secrets → Spoken
spoken_s k = record {
  node = codes "b";
  start = start_as (codes "p9any") (codes "server") k.server;
  met = found (key_of srv k.srv_key) (Some k.srv_password) ∷ offered (codes "p9sk1@x") ∷ [];
  key = Some (key_of srv k.srv_key, Some k.srv_password);
}

-- both by their names
abbrev pub spoken : Secrets → List ℕ → Option Spoken
spoken k name =
    if bytes_eq conv_c name then Some (spoken_c k)
    else if bytes_eq conv_s name then Some (spoken_s k)
    else None

-- a conversation that was started keeps this key
abbrev pub HasKey : Word → Option Spoken → Type 0
HasKey key None = ⊥
HasKey key (Some spoken) = option_map (λ kept. kept.0.des.0) spoken.key ≡ Some (key_bytes key)

abbrev pub login_setting : Secrets → (List ℕ → Option Spoken) → Setting
login_setting k spoken = record { spoken = spoken; dom = codes "x"; tables = tables k ∷ [] }

-- ---- its reading, and its labelling

abbrev pub reading : Secrets → Atoms
reading k =
    (nonce 0, word_bytes k.client)
    ∷ (nonce 1, word_bytes k.server)
    ∷ (challenge 0, encode_lower (word_bytes k.first))
    ∷ (ticket_key 0, key_bytes k.first)
    ∷ (junk_key 0, key_bytes k.second)
    ∷ (junk_key 1, key_bytes k.third)
    ∷ (long_key ann, key_bytes k.ann_key)
    ∷ (long_key srv, key_bytes k.srv_key)
    ∷ (password ann, k.ann_password)
    ∷ (password srv, k.srv_password)
    ∷ []

abbrev pub fields : List ℕ → Fields
fields user = record {
  authid = name_28 srv;
  authdom = name_field 48 (codes "x");
  hostid = name_28 user;
  uid = name_28 user;
}

abbrev pub handed : Tree
handed = seal (long_key srv) (ticket for_server (nonce 1) (name_28 ann) (name_28 ann) (ticket_key 0))

abbrev pub answer : Tree
answer = tickets (seal (long_key ann) (ticket for_client (nonce 1) (name_28 ann) (name_28 ann) (ticket_key 0))) handed

-- the trees of what is taken, by their places
abbrev pub trees : List (Option Tree)
trees =
    None ∷ None ∷ None
    ∷ Some (plain offer_bytes) ∷ None
    ∷ Some (plain choice_bytes) ∷ None
    ∷ Some (nonce 0) ∷ None
    ∷ Some (request ticket_request (fields []) (nonce 1)) ∷ None
    ∷ Some (request ticket_request (fields ann) (nonce 1)) ∷ None
    ∷ Some answer ∷ None
    ∷ Some (client_message handed (ticket_key 0) (nonce 1)) ∷ None ∷ None
    ∷ Some (server_message (ticket_key 0) (nonce 0)) ∷ None
    ∷ []

abbrev pub tree_at : Option (Option Tree) → Tree
tree_at (Some (Some t)) = t
tree_at place = plain []

-- nobody is compromised; ann's key is the client's, srv's the server's
abbrev pub labelling : Labelling
labelling = record {
  compromised = [];
  holder = λ name. if bytes_eq name conv_c then ann else srv;
  label = λ place. tree_at (slice_get trees place);
}
