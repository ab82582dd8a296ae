-- A login by p9sk1 (authsrv(6) of the Plan 9 manual) whose messages reach the other side as they were sent: what the
-- client and the server are given is what the other gave, and the authentication server answers the client's
-- question.
use Rattle.std.specs.Prelude.{◌≡◌, ℕ, ◌<◌, List, [], ◌∷◌, Bool, true, false, length, codes, Option, Some}
use Rattle.wire_base.specs.Names.{IsName}
use Rattle.wire_base.specs.declared.name.AuthInfo.{AuthInfo}
use Rattle.attr_tuples.specs.Forms.{is_dom}
use Rattle.attr_tuples.specs.Matching.{value_of}
use Rattle.sealing.specs.Keys.{expanded}
use Rattle.sealing.specs.Fitting.{FitsName, IsBlock}
use Rattle.auth_tables.specs.Keys.{UserKey}
use Rattle.auth_server.specs.Requests.{Asked, asked_so}
use Rattle.auth_server.specs.Answers.{Knowledge, answer, shared_key, word}
use Rattle.roles.specs.declared.answer.Gave.{Gave}
use Rattle.roles.specs.declared.key.SkKey.{SkKey}
use Rattle.roles.specs.declared.need.Need.{Need}
use Rattle.roles.specs.declared.need.Need.TheVariants.{Nothing, Key, Offers, Pick, Exchange}
use Rattle.roles.specs.declared.need.Outcome.{Outcome}
use Rattle.roles.specs.declared.need.Outcome.TheVariants.{Accepted}
use Rattle.roles.specs.declared.stage.Role.TheVariants.{Server}
use Rattle.roles.specs.Clients.{is_elsewhere, wanted_user}
use Rattle.roles.specs.Courses.{answer_after, ended_after, need_after, outcome_after, puts_after}
use Rattle.roles.specs.Starts.{Start, role_of}
use Rattle.roles.specs.Talks.{Call, give, get, found, heard}
use Rattle.complete_logins.specs.Calls.{AllWell}

-- who logs in, and where: how both sides start and which key each finds, what the authentication server knows, what
-- it was asked before, and the words that it draws
pub record Login : Type 0 where
  pub client : Start
  pub client_key : SkKey
  pub client_password : Option (List ℕ)
  pub server : Start
  pub server_key : SkKey
  pub server_password : Option (List ℕ)
  pub known : Knowledge
  pub before : List Asked
  pub words : List (List ℕ)

-- what the authentication server is asked
abbrev pub question_in : Need → List ℕ
question_in (Exchange request shape) = request
question_in (Key template) = []
question_in (Offers template) = []
question_in (Pick templates) = []
question_in Nothing = []

-- ---- what both sides meet

-- how a side speaks: what a call is answered behind a talk, the bytes that are got by it, what is needed behind a
-- talk, how it ends, and whether its last move was made
pub record Speaker : Type 0 where
  pub answers : List Call → Call → Gave
  pub puts : List Call → Call → List ℕ
  pub needs : List Call → Need
  pub ends : List Call → Outcome
  pub ended : List Call → Bool

-- by p9sk1
abbrev pub by_p9sk1 : Start → Speaker
by_p9sk1 start = record {
  answers = answer_after start;
  puts = puts_after start;
  needs = need_after start;
  ends = outcome_after start;
  ended = ended_after start;
}

-- both sides, and what each met before p9sk1 is spoken
pub record Between : Type 0 where
  pub client : Speaker
  pub client_met : List Call
  pub server : Speaker
  pub server_met : List Call

-- p9sk1 alone: nothing was met before
abbrev pub alone : Login → Between
alone l = record { client = by_p9sk1 l.client; client_met = []; server = by_p9sk1 l.server; server_met = [] }

-- step by step, the newest first: the server finds its key and is given the client's challenge
abbrev pub server_greeted : Between → Login → List Call
server_greeted b l = give (b.client.puts b.client_met get) ∷ found l.server_key l.server_password ∷ b.server_met

-- the client is given the server's request, and finds its key
abbrev pub client_asked : Between → Login → List Call
client_asked b l = found l.client_key l.client_password ∷ give (b.server.puts (server_greeted b l) get) ∷ get
    ∷ b.client_met

-- the authentication server answers what the client asks
abbrev pub grant_of : Between → Login → List ℕ
grant_of b l = answer l.known l.before (asked_so (question_in (b.client.needs (client_asked b l))) l.words)

abbrev pub client_heard : Between → Login → List Call
client_heard b l = heard (grant_of b l) ∷ client_asked b l

-- the server is given what the client shows
abbrev pub server_shown : Between → Login → List Call
server_shown b l = give (b.client.puts (client_heard b l) get) ∷ get ∷ server_greeted b l

-- all that the server meets; the client is given what the server shows: all that the client meets
abbrev pub server_talk : Between → Login → List Call
server_talk b l = get ∷ server_shown b l

abbrev pub client_talk : Between → Login → List Call
client_talk b l = give (b.server.puts (server_shown b l) get) ∷ get ∷ client_heard b l

-- ---- who may log in

-- the authentication server knows this key as its user's
pub record KnowsKey (known : Knowledge) (key : SkKey) : Type 0 where
  pub line : UserKey
  pub knows : known.key key.user ≡ Some line
  pub same : line.des ≡ key.des.0

-- a name of a field of 28 bytes, and not the empty one
pub record IsUser (name : List ℕ) : Type 0 where
  pub fits : FitsName 28 name
  pub some : 0 < length name

-- Both keys are those that the authentication server knows; the client's start names no other domain than the server's
-- key; and the user of the client's key may speak for whom the client asks to be.
pub record MayLogIn (l : Login) : Type 0 where
  pub client_role : role_of l.client.template ≡ Server → ⊥
  pub server_role : role_of l.server.template ≡ Server
  pub client_word : IsBlock 8 l.client.word
  pub server_word : IsBlock 8 l.server.word
  pub client_known : KnowsKey l.known l.client_key
  pub server_known : KnowsKey l.known l.server_key
  pub client_user : IsUser l.client_key.user
  pub server_user : IsUser l.server_key.user
  pub dom_name : IsName 48 l.server_key.dom
  pub dom_form : is_dom l.server_key.dom ≡ true
  pub same_dom : is_elsewhere (value_of (codes "dom") l.client.template) l.server_key.dom ≡ false
  pub wanted : IsUser (wanted_user (role_of l.client.template) l.client_key)
  pub speaks : l.known.speaks l.client_key.user (wanted_user (role_of l.client.template) l.client_key) ≡ true
  pub drawn : IsBlock 8 (word 0 l.words)

-- ---- how it ends

-- whom both sides accept, and the secret that they share
abbrev pub accepted_in : Login → AuthInfo
accepted_in l = record {
  cuid = l.client_key.user;
  suid = wanted_user (role_of l.client.template) l.client_key;
  secret = expanded (shared_key l.words);
}

-- every call of both sides is answered well, and both come to their end and accept the same names and the same secret
pub record LogsIn (b : Between) (l : Login) : Type 0 where
  pub client_well : AllWell b.client.answers (client_talk b l)
  pub server_well : AllWell b.server.answers (server_talk b l)
  pub client_accepts : b.client.ends (client_talk b l) ≡ Accepted (accepted_in l)
  pub server_accepts : b.server.ends (server_talk b l) ≡ Accepted (accepted_in l)
  pub client_ends : b.client.ended (client_talk b l) ≡ true
  pub server_ends : b.server.ended (server_talk b l) ≡ true

abbrev pub LoginsEnd : Type 0
LoginsEnd = (l : Login) → MayLogIn l → LogsIn (alone l) l
