-- A login by p9sk1 that p9any leads to (authsrv(6) of the Plan 9 manual): the server offers a list, the client picks
-- one of its domains, and what it says then reaches the server as it was sent.
use Rattle.std.specs.Prelude.{◌≡◌, ℕ, ◌<◌, List, [], ◌∷◌, ◌==◌, false, length, codes, Option}
use Rattle.std.specs.List.{list_any}
use Rattle.roles.specs.declared.key.SkKey.{SkKey}
use Rattle.roles.specs.declared.stage.Role.TheVariants.{Server}
use Rattle.roles.specs.Courses as sk
use Rattle.roles.specs.Starts.{Start, role_of}
use Rattle.roles.specs.Talks.{Call, give, get, found, offered, picked}
use Rattle.conv_p9any.specs.declared.stage.TheConstants.{MOST_TEXT}
use Rattle.conv_p9any.specs.Courses.{answer_after, ended_after, need_after, outcome_after, puts_after}
use Rattle.conv_p9any.specs.Inner.{Inner, inner_start}
use Rattle.conv_p9any.specs.Offers.{consents, dom_at, eligible}
use Rattle.complete_logins.specs.Logins.{Between, Login, LogsIn, MayLogIn, Speaker}

-- the role that is led to
abbrev pub p9sk1 : Inner
p9sk1 = record {
  name = codes "p9sk1";
  answers = sk.answer_after;
  puts = sk.puts_after;
  needs = sk.need_after;
  ends = sk.outcome_after;
  ended = sk.ended_after;
}

-- how a side speaks by p9any
abbrev pub by_p9any : Start → Speaker
by_p9any start = record {
  answers = answer_after p9sk1 start;
  puts = puts_after p9sk1 start;
  needs = need_after p9sk1 start;
  ends = outcome_after p9sk1 start;
  ended = ended_after p9sk1 start;
}

-- a key that is found, and its password
pub record FoundKey : Type 0 where
  pub key : SkKey
  pub password : Option (List ℕ)

-- how both sides start, the keys that the server found one after the other while it had nothing to offer, the newest
-- first, the list that it offers, and which of the domains that it may choose the client picks
pub record Choice : Type 0 where
  pub client : Start
  pub server : Start
  pub keys : List FoundKey
  pub list : List ℕ
  pub place : ℕ

-- the domain that is chosen
abbrev pub dom_of : Choice → List ℕ
dom_of c = dom_at (codes "p9sk1") c.client c.list c.place

-- ---- what both sides meet, the newest first

-- where there is nothing to offer a key is asked for, and behind it the offers are looked for again
abbrev pub keys_found : List FoundKey → List Call
keys_found [] = []
keys_found (k ∷ earlier) = found k.key k.password ∷ offered [] ∷ keys_found earlier

abbrev pub server_offers : Choice → List Call
server_offers c = offered c.list ∷ keys_found c.keys

abbrev pub client_picks : Choice → List Call
client_picks c = picked c.place ∷ give (puts_after p9sk1 c.server (server_offers c) get) ∷ []

abbrev pub server_chosen : Choice → List Call
server_chosen c = give (puts_after p9sk1 c.client (client_picks c) get) ∷ get ∷ server_offers c

abbrev pub client_chosen : Choice → List Call
client_chosen c = get ∷ client_picks c

abbrev pub chosen : Choice → Between
chosen c = record {
  client = by_p9any c.client;
  client_met = client_chosen c;
  server = by_p9any c.server;
  server_met = server_chosen c;
}

-- ---- what may be chosen

-- The server offers something, at once or behind keys that it is told, in a list that fits a message and has no NUL,
-- without consenting to the choice, and the client picks one of the domains that it may choose.
pub record MayChoose (c : Choice) : Type 0 where
  pub client_role : role_of c.client.template ≡ Server → ⊥
  pub server_role : role_of c.server.template ≡ Server
  pub some : 0 < length c.list
  pub fits : length c.list < MOST_TEXT
  pub clean : list_any (λ b. b == 0) c.list ≡ false
  pub plain : consents c.list ≡ false
  pub picks : c.place < length (eligible (codes "p9sk1") c.client c.list)

-- a login is that of both sides in the domain that is chosen
pub record IsChosen (c : Choice) (l : Login) : Type 0 where
  pub client : l.client ≡ inner_start (codes "p9sk1") c.client (dom_of c)
  pub server : l.server ≡ inner_start (codes "p9sk1") c.server (dom_of c)

abbrev pub ChoicesEnd : Type 0
ChoicesEnd = (c : Choice) (l : Login) → MayChoose c → IsChosen c l → MayLogIn l → LogsIn (chosen c) l
