-- What the server and its sessions are seen as: the server as its domain and its tables, a session as what its requests
-- left.
use Rattle.std.specs.Prelude.{◌≡◌, ℕ, List, Option}
use Rattle.auth_tables.specs.Keys.{KeyLine, key_of}
use Rattle.auth_tables.specs.Speaks.{SpeakLine, may_speak, names_of}
use Rattle.auth_server.specs.Requests.{Asked, Challenge}
use Rattle.auth_server.specs.Answers.{Knowledge, Posed, held_in, under, wrong_in}

-- a server's domain, the keys of its table, and the names that its other table gives to hosts
pub record Server : Type 0 where
  pub dom : List ℕ
  pub keys : List KeyLine
  pub speaks : List SpeakLine

-- what it knows by them
abbrev pub knowledge : Server → Knowledge
knowledge server = record {
  dom = server.dom;
  key = λ user. key_of user server.keys;
  speaks = λ host user. may_speak (names_of host server.speaks) host user;
}

-- what a session is seen as: the challenge that it holds, and how many wrong answers it had
pub record Standing : Type 0 where
  pub held : Option Challenge
  pub wrong : ℕ

-- a session stands for these requests, the newest first
pub record Stands (requests : List Posed) (session : Standing) : Type 0 where
  pub held : session.held ≡ held_in requests
  pub wrong : session.wrong ≡ wrong_in requests

-- the same where the tables stay as they are
abbrev pub StandsFor : Knowledge → List Asked → Standing → Type 0
StandsFor known requests session = Stands (under known requests) session
