-- The names that runs written out speak of, and what they have in common.
use Rattle.std.specs.Prelude.{◌≡◌, ℕ, List, [], ◌∷◌, codes, replicate, true, Option, Some}
use Rattle.wire_base.specs.Names.{name_field}
use Rattle.symbolic_runs.specs.Trees.{Tree}
use Rattle.symbolic_runs.specs.Forms.{answer_challenge, Fields}
use Rattle.symbolic_runs.specs.Moves.{accepts}
use Rattle.symbolic_runs.specs.Sessions.{Grant, keys, key_and_password}
use Rattle.symbolic_runs.specs.Runs.{Setting, moves, Run}
use Rattle.symbolic_runs.specs.Agreement.{is_server, Acceptance}

-- two servers, two users, and one who may speak for the first
abbrev pub srv : List ℕ
srv = codes "srv"

abbrev pub other : List ℕ
other = codes "other"

abbrev pub ann : List ℕ
ann = codes "ann"

abbrev pub bob : List ℕ
bob = codes "bob"

abbrev pub eve : List ℕ
eve = codes "eve"

-- a name as it stands in a record
abbrev pub field : List ℕ → List ℕ
field name = name_field 28 name

abbrev pub domain : List ℕ
domain = codes "x"

-- the fields of a request: of which server, in whose name, for which user
abbrev pub asked : List ℕ → List ℕ → List ℕ → Fields
asked server host user = record {
  authid = field server;
  authdom = name_field 48 domain;
  hostid = field host;
  uid = field user;
}

-- what a p9sk1 server sends: its name alone
abbrev pub offered : List ℕ → Fields
offered server = asked server [] []

-- eight bytes in the place of a challenge, seven in that of a key, 32 in that of the digits of a digest
abbrev pub eight : List ℕ
eight = 1 ∷ 2 ∷ 3 ∷ 4 ∷ 5 ∷ 6 ∷ 7 ∷ 8 ∷ []

abbrev pub seven : List ℕ
seven = 1 ∷ 2 ∷ 3 ∷ 4 ∷ 5 ∷ 6 ∷ 7 ∷ []

abbrev pub digits : List ℕ
digits = replicate 32 48

-- the bytes before a mail challenge: its kind, and how long it is
abbrev pub before_challenge : List ℕ
before_challenge = answer_challenge ∷ codes "20   "

abbrev pub before_eight : List ℕ
before_eight = answer_challenge ∷ codes "8    "

-- tickets for a server and a host's client, for a user for whom the host may speak
abbrev pub tickets_for : List ℕ → Option (List ℕ) → List ℕ → List ℕ → Tree → Grant
tickets_for server key host user chal = record {
  used = keys (Some server) key;
  speakers = user ∷ host ∷ [];
  chal = chal;
  host = field host;
  user = field user;
}

-- a vouch for a user's right answer
abbrev pub vouch_for : List ℕ → List ℕ → Tree → Grant
vouch_for server user chal = record {
  used = key_and_password (Some server) user;
  speakers = user ∷ [];
  chal = chal;
  host = field user;
  user = field user;
}

-- the acceptance with which a run ends
abbrev pub at_the_end : (s : Setting) (past : Run) (conv : ℕ) (user : List ℕ) → is_server (s.role conv) ≡ true
    → Acceptance s (moves conv (accepts user) ∷ past)
at_the_end s past conv user server = record {
  conv = conv;
  user = user;
  past = past;
  stands = record { later = []; place = λ i. moves conv (accepts user) ∷ past };
  by_a_server = server;
}
