-- The form that the label of a message must have whose tests all passed: its shape, the very key, and in the place of
-- a challenge that was compared the very tree (authsrv(6) of the Plan 9 manual). It is told by what a conversation
-- did, the newest first, where something other than a failure follows on what came: only a move that passed is
-- followed so.
use Rattle.std.specs.Prelude.{◌≡◌, ℕ, List, [], ◌∷◌, length, Option, Ok}
use Rattle.symbolic_runs.specs.declared.kind.MacKind.{MacKind}
use Rattle.symbolic_runs.specs.Trees.{Tree, plain, seal, password, digest}
use Rattle.symbolic_runs.specs.Spellings.{Atoms, spelling}
use Rattle.symbolic_runs.specs.Forms.{ticket_request, for_server, for_client, by_client, mail_request, Fields, AreFields, pair, request, ticket, authenticator, tickets, server_message, vouch, mail_challenge}
use Rattle.symbolic_runs.specs.Moves.{Role, client, server, mail_server, Move, takes, hears, gives, asks, AreNames, Own}
use Rattle.symbolic_runs.specs.Sessions.{Deed, got, gives_tickets, gives_challenge, gives_vouch, key_and_password}
use Rattle.symbolic_runs.specs.Gifts.{opened, part}
use Rattle.symbolic_runs.specs.Runs.{Setting}

-- a request, with whole fields
pub record IsRequest (kind : List ℕ) (t : Tree) : Type 0 where
  pub fields : Fields
  pub whole : AreFields fields
  pub chal : Tree
  pub is : t ≡ request kind fields chal

-- an answer to a client's question: a ticket for it under its key, with the challenge of its question, and whatever
-- it hands on
pub record IsAnswer (atoms : Atoms) (own : Own) (question t : Tree) : Type 0 where
  pub cuid : List ℕ
  pub suid : List ℕ
  pub names : AreNames cuid suid
  pub key : Tree
  pub seven : (b : List ℕ) → spelling atoms key ≡ Ok b → length b ≡ 7
  pub handed : Tree
  pub is : t ≡ tickets (seal own.key (ticket for_client (part question 3) cuid suid key)) handed

-- what a client shows to a server: a ticket under the server's key with the server's challenge, and an authenticator
-- under the ticket's key
pub record IsShown (own : Own) (t : Tree) : Type 0 where
  pub cuid : List ℕ
  pub suid : List ℕ
  pub names : AreNames cuid suid
  pub key : Tree
  pub is : t ≡ pair (seal own.key (ticket for_server own.word cuid suid key))
      (seal key (authenticator by_client own.word))

-- a challenge behind six bytes
pub record IsChallenge (t : Tree) : Type 0 where
  pub head : List ℕ
  pub six : length head ≡ 6
  pub chal : Tree
  pub is : t ≡ pair (plain head) chal

pub record IsPlain (t : Tree) : Type 0 where
  pub bytes : List ℕ
  pub is : t ≡ plain bytes

-- what vouches to a mail server for an answer
pub record IsVouch (own : Own) (t : Tree) : Type 0 where
  pub cuid : List ℕ
  pub suid : List ℕ
  pub names : AreNames cuid suid
  pub key : Tree
  pub is : t ≡ vouch (seal own.key (ticket for_server own.word cuid suid key))
      (seal key (authenticator by_client own.word))

-- what came last has its form
abbrev pub IsFormed : Atoms → Own → Role → List Move → Type 0
IsFormed atoms own client (takes t ∷ gives w ∷ []) = IsRequest ticket_request t
IsFormed atoms own client (hears t ∷ asks q ∷ takes r ∷ gives w ∷ []) = IsAnswer atoms own q t
IsFormed atoms own client (takes t ∷ gives g ∷ hears a ∷ asks q ∷ takes r ∷ gives w ∷ []) =
    t ≡ server_message (part (opened a) 4) own.word
IsFormed atoms own server (takes t ∷ gives r ∷ takes y ∷ []) = IsShown own t
IsFormed atoms own (mail_server kind) (hears t ∷ asks q ∷ []) = IsChallenge t
IsFormed atoms own (mail_server kind) (takes t ∷ gives c ∷ hears a ∷ asks q ∷ []) = IsPlain t
IsFormed atoms own (mail_server kind) (hears t ∷ asks v ∷ takes r ∷ takes u ∷ gives c ∷ hears a ∷ asks q ∷ []) =
    IsVouch own t
IsFormed atoms own role before = Unit {0}

-- an answer to a challenge: a request, and the digest of the challenge under the password of the name that is used
pub record IsRight (s : Setting) (kind : MacKind) (number first : ℕ) (t : Tree) : Type 0 where
  pub fields : Fields
  pub whole : AreFields fields
  pub sealer : Option (List ℕ)
  pub name : List ℕ
  pub used : (s.grants number).used ≡ key_and_password sealer name
  pub is : t ≡ pair (request (mail_request kind) fields (s.grants number).chal)
      (digest kind (password name) (mail_challenge s.domain first))

-- a request that is answered so, and not refused, has its form
abbrev pub IsAnswered : Setting → List Deed → Deed → Type 0
IsAnswered s (got number t ∷ before) (gives_tickets answered) = IsRequest ticket_request t
IsAnswered s (got number t ∷ before) (gives_challenge kind answered head) = IsRequest (mail_request kind) t
IsAnswered s (got number t ∷ before) (gives_vouch kind answered first) = IsRight s kind number first t
IsAnswered s before deed = Unit {0}
