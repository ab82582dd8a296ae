-- The messages of Plan 9's authentication protocols as trees (authsrv(6) of the Plan 9 manual): a record is its fields
-- one behind the other. A public field is all its bytes: a kind 1, a name 28, a domain 48, an id 4.
use Rattle.std.specs.Prelude.{◌≡◌, ℕ, List, [], ◌∷◌, ◌++◌, length, ◌==◌, if◌then◌else◌}
use Rattle.symbolic_runs.specs.declared.kind.MacKind.{MacKind}
use Rattle.symbolic_runs.specs.declared.kind.MacKind.TheVariants.{Apop, Cram}
use Rattle.symbolic_runs.specs.Trees.{Tree, plain, challenge, joined, seal, none, piece}

-- the kinds of records, as bytes
abbrev pub ticket_request : List ℕ
ticket_request = 1 ∷ []

abbrev pub answer_ok : List ℕ
answer_ok = 4 ∷ []

abbrev pub answer_challenge : ℕ
answer_challenge = 9

abbrev pub for_server : List ℕ
for_server = 64 ∷ []

abbrev pub for_client : List ℕ
for_client = 65 ∷ []

abbrev pub by_server : List ℕ
by_server = 66 ∷ []

abbrev pub by_client : List ℕ
by_client = 67 ∷ []

abbrev pub mail_request : MacKind → List ℕ
mail_request Apop = 7 ∷ []
mail_request Cram = 12 ∷ []

-- a request's fields but for its kind and challenge
pub record Fields : Type 0 where
  pub authid : List ℕ
  pub authdom : List ℕ
  pub hostid : List ℕ
  pub uid : List ℕ

-- they are whole fields
pub record AreFields (fields : Fields) : Type 0 where
  pub authid : length fields.authid ≡ 28
  pub authdom : length fields.authdom ≡ 48
  pub hostid : length fields.hostid ≡ 28
  pub uid : length fields.uid ≡ 28

-- the text of a name's field: what stands before its first NUL
abbrev pub name_text : List ℕ → List ℕ
name_text [] = []
name_text (byte ∷ bytes) = if byte == 0 then [] else byte ∷ name_text bytes

-- two trees one behind the other
abbrev pub pair : Tree → Tree → Tree
pair a b = joined (piece a (piece b none))

-- a request to the authentication server
abbrev pub request : List ℕ → Fields → Tree → Tree
request kind fields chal = joined (piece (plain kind)
    (piece (plain fields.authid)
    (piece (plain fields.authdom) (piece chal (piece (plain fields.hostid) (piece (plain fields.uid) none))))))

-- a ticket before it is sealed: its number, the challenge, the client's user, the server's user and the key
abbrev pub ticket : List ℕ → Tree → List ℕ → List ℕ → Tree → Tree
ticket number chal cuid suid key =
    joined (piece (plain number) (piece chal (piece (plain cuid) (piece (plain suid) (piece key none)))))

-- an authenticator before it is sealed: its number, the challenge and the id 0
abbrev pub authenticator : List ℕ → Tree → Tree
authenticator number chal = joined (piece (plain number) (piece chal (piece (plain (0 ∷ 0 ∷ 0 ∷ 0 ∷ [])) none)))

-- the answer to a ticket request: what is for the client, and what it hands on
abbrev pub tickets : Tree → Tree → Tree
tickets for_the_client for_the_server =
    joined (piece (plain answer_ok) (piece for_the_client (piece for_the_server none)))

-- the client's 85 bytes: the ticket as it came, and an authenticator
abbrev pub client_message : Tree → Tree → Tree → Tree
client_message handed key chal = pair handed (seal key (authenticator by_client chal))

-- what the server answers to it
abbrev pub server_message : Tree → Tree → Tree
server_message key chal = seal key (authenticator by_server chal)

-- the answer that vouches for a mail login: a ticket and an authenticator
abbrev pub vouch : Tree → Tree → Tree
vouch for_the_server proof = joined (piece (plain answer_ok) (piece for_the_server (piece proof none)))

-- the challenge of a mail login: `<`, the digits of the word of the request, `@`, the domain and `>`
abbrev pub mail_challenge : List ℕ → ℕ → Tree
mail_challenge domain number =
    joined (piece (plain (60 ∷ [])) (piece (challenge number) (piece (plain (64 ∷ (domain ++ 62 ∷ []))) none)))
