-- Places of a run. A place is told by what stands before it.
use Rattle.std.specs.Prelude.{◌≡◌, ℕ, List, [], ◌∷◌, ◌++◌, length, Contains, Option, Some, None}
use Rattle.symbolic_runs.specs.declared.kind.MacKind.{MacKind}
use Rattle.symbolic_runs.specs.Moves.{Role, client, server, mail_client, mail_server, Move, gives, asks, accepts}
use Rattle.symbolic_runs.specs.Sessions.{Deed, got, gives_tickets, gives_challenge, gives_vouch, refuses}
use Rattle.symbolic_runs.specs.Runs.{Event, starts, serves, Run, started, moves_of}

-- in a run an event stands right behind this past
pub record Stands (run past : Run) (event : Event) : Type 0 where
  pub later : Run
  pub place : run ≡ later ++ event ∷ past

-- the request that a deed answers
abbrev pub answers_to : Deed → Option ℕ
answers_to (got number t) = None
answers_to (gives_tickets number) = Some number
answers_to (gives_challenge kind number head) = Some number
answers_to (gives_vouch kind number first) = Some number
answers_to (refuses number bytes) = Some number

-- how many moves a conversation did before
abbrev pub turn : ℕ → Run → ℕ
turn conv past = length (moves_of conv past)

-- the turns in which a role gives a message to the network: a p9sk1 client its challenge and its ticket, a p9sk1
-- server its request and its authenticator, a mail client its digest, a mail server the challenge
abbrev pub turns_that_give : Role → List ℕ
turns_that_give client = 0 ∷ 4 ∷ []
turns_that_give server = 1 ∷ 4 ∷ []
turns_that_give (mail_client kind) = 1 ∷ []
turns_that_give (mail_server kind) = 2 ∷ []

-- the turns in which it asks the authentication server: a p9sk1 client for its tickets, a mail server for a challenge
-- and whether the answer to it is right
abbrev pub turns_that_ask : Role → List ℕ
turns_that_ask client = 2 ∷ []
turns_that_ask server = []
turns_that_ask (mail_client kind) = []
turns_that_ask (mail_server kind) = 0 ∷ 5 ∷ []

-- the turn in which it accepts
abbrev pub turns_that_accept : Role → List ℕ
turns_that_accept client = 6 ∷ []
turns_that_accept server = 3 ∷ []
turns_that_accept (mail_client kind) = []
turns_that_accept (mail_server kind) = 7 ∷ []

-- a move comes in a turn of its kind
abbrev pub InTurn : Role → ℕ → Move → Type 0
InTurn role number (gives t) = Contains (turns_that_give role) number
InTurn role number (asks t) = Contains (turns_that_ask role) number
InTurn role number (accepts user) = Contains (turns_that_accept role) number
InTurn role number move = Unit

-- the start of a conversation, the one with its number
pub record StartsIn (run : Run) (conv : ℕ) : Type 0 where
  pub past : Run
  pub stands : Stands run past starts
  pub number : started past ≡ conv

-- a session gave the challenge of this kind and number
pub record ChallengedIn (run : Run) (session : ℕ) (kind : MacKind) (number : ℕ) : Type 0 where
  pub past : Run
  pub head : List ℕ
  pub stands : Stands run past (serves session (gives_challenge kind number head))
