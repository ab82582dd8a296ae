-- A login to a mail server by APOP (RFC 1939) or CRAM (RFC 2195), whose messages reach the other side as they were
-- sent, as the name of the user does, which the mail protocol carries. The server asks the authentication server for
-- a challenge, and on the same connection to vouch for the user (authsrv(6) of the Plan 9 manual).
use Rattle.std.specs.Prelude.{◌≡◌, ℕ, List, [], ◌∷◌, true, false, Option, Some}
use Rattle.wire_base.specs.Names.{IsName}
use Rattle.wire_base.specs.declared.name.AuthInfo.{AuthInfo}
use Rattle.attr_tuples.specs.Forms.{is_dom, is_user}
use Rattle.sealing.specs.Keys.{expanded}
use Rattle.sealing.specs.Fitting.{IsBlock}
use Rattle.auth_tables.specs.Keys.{UserKey}
use Rattle.auth_server.specs.Requests.{Asked, asked_so, is_for}
use Rattle.auth_server.specs.Answers.{Knowledge, answer, held, shared_key, word}
use Rattle.roles.specs.declared.key.SkKey.{SkKey}
use Rattle.roles.specs.declared.need.Outcome.TheVariants.{Accepted, Finished}
use Rattle.roles.specs.Starts.{Start}
use Rattle.roles.specs.Talks.{Call, give, get, found, heard}
use Rattle.conv_challenge.specs.declared.stage.Side.TheVariants.{Client, Server}
use Rattle.conv_challenge.specs.Courses.{answer_after, ended_after, need_after, outcome_after, puts_after}
use Rattle.conv_challenge.specs.Servers.{request_kind}
use Rattle.conv_challenge.specs.Starts.{proto_of, side_of}
use Rattle.complete_logins.specs.Calls.{AllWell}
use Rattle.complete_logins.specs.Logins.{IsUser, KnowsKey, question_in}

-- who logs in, and where: how both sides start, the key and the password that the client finds, the key that the
-- server finds, the name of the user, what the authentication server knows, what the session was asked before, and
-- the words that are drawn for the two requests
pub record MailLogin : Type 0 where
  pub client : Start
  pub client_key : SkKey
  pub password : List ℕ
  pub server : Start
  pub server_key : SkKey
  pub server_password : Option (List ℕ)
  pub user : List ℕ
  pub known : Knowledge
  pub before : List Asked
  pub words : List (List ℕ)
  pub later_words : List (List ℕ)

-- ---- what both sides and the authentication server meet, step by step, the newest first

abbrev pub server_started : MailLogin → List Call
server_started l = found l.server_key l.server_password ∷ []

-- the server asks for a challenge
abbrev pub asked_first : MailLogin → Asked
asked_first l = asked_so (question_in (need_after l.server (server_started l))) l.words

abbrev pub server_heard : MailLogin → List Call
server_heard l = heard (answer l.known l.before (asked_first l)) ∷ server_started l

-- the client is given it, and finds its key
abbrev pub client_challenged : MailLogin → List Call
client_challenged l = found l.client_key (Some l.password) ∷ give (puts_after l.server (server_heard l) get) ∷ []

-- the server is given the user's name and the client's digits
abbrev pub server_answered : MailLogin → List Call
server_answered l = give (puts_after l.client (client_challenged l) get) ∷ give l.user ∷ get ∷ server_heard l

-- it asks to vouch for the user, behind its first request
abbrev pub asked_then : MailLogin → Asked
asked_then l = asked_so (question_in (need_after l.server (server_answered l))) l.later_words

-- all that the server meets, and all that the client meets
abbrev pub server_talk : MailLogin → List Call
server_talk l = heard (answer l.known (asked_first l ∷ l.before) (asked_then l)) ∷ server_answered l

abbrev pub client_talk : MailLogin → List Call
client_talk l = get ∷ client_challenged l

-- ---- who may log in

-- the authentication server knows a password as the user's
pub record KnowsPassword (known : Knowledge) (user password : List ℕ) : Type 0 where
  pub line : UserKey
  pub knows : known.key user ≡ Some line
  pub same : line.password ≡ Some password

-- Both sides speak the same protocol; the authentication server knows the server's key, and the client's password as
-- that of the user who is named. Of the session's earlier requests none left a challenge of this protocol that isn't
-- answered.
pub record MayMail (l : MailLogin) : Type 0 where
  pub client_side : side_of l.client.template ≡ Client
  pub server_side : side_of l.server.template ≡ Server
  pub same_proto : proto_of l.client.template ≡ proto_of l.server.template
  pub server_word : IsBlock 8 l.server.word
  pub server_known : KnowsKey l.known l.server_key
  pub unheld : is_for (request_kind (proto_of l.server.template)) (held l.known l.before) ≡ false
  pub server_user : IsUser l.server_key.user
  pub dom_name : IsName 48 l.server_key.dom
  pub right : KnowsPassword l.known l.user l.password
  pub user : IsUser l.user
  pub user_form : is_user l.user ≡ true
  pub known_dom : is_dom l.known.dom ≡ true
  pub first_drawn : IsBlock 8 (word 0 l.words)
  pub then_drawn : IsBlock 8 (word 0 l.later_words)

-- ---- how it ends

-- whom the server accepts, with a secret that no mail server uses
abbrev pub accepted_in : MailLogin → AuthInfo
accepted_in l = record { cuid = l.user; suid = l.user; secret = expanded (shared_key l.later_words) }

-- every call of both sides is answered well; the client comes to its end, and the server accepts the user
pub record MailsIn (l : MailLogin) : Type 0 where
  pub client_well : AllWell (answer_after l.client) (client_talk l)
  pub server_well : AllWell (answer_after l.server) (server_talk l)
  pub client_finishes : outcome_after l.client (client_talk l) ≡ Finished
  pub server_accepts : outcome_after l.server (server_talk l) ≡ Accepted (accepted_in l)
  pub client_ends : ended_after l.client (client_talk l) ≡ true
  pub server_ends : ended_after l.server (server_talk l) ≡ true

abbrev pub MailLoginsEnd : Type 0
MailLoginsEnd = (l : MailLogin) → MayMail l → MailsIn l
